use Rattle.gc_file.proofs.LabelFileLemmas.{judged, not_both, one_label_file, one_fault, lasts}
use Rattle.gc_file.proofs.laws.law_label_file.Goals as goal

pub returns : goal.returns
returns c = λ bytes are. record {
  either = judged bytes are;
  not_both = not_both bytes;
  one_file = one_label_file bytes;
  one_fault = one_fault bytes;
  lasts = lasts bytes;
}
