use Rattle.gc_file.proofs.HeaderLemmas.{lasts}
use Rattle.gc_file.proofs.FaultLemmas.{one_fault}
use Rattle.gc_file.proofs.OneFile.{file_not_fault, one_file}
use Rattle.gc_file.proofs.EitherLemmas.{judged}
use Rattle.gc_file.proofs.laws.law_garbled_file.Goals as goal

pub returns : goal.returns
returns c = λ bytes are. record {
  either = judged bytes are;
  not_both = file_not_fault bytes;
  one_file = one_file bytes;
  one_fault = one_fault bytes;
  lasts = λ e more. lasts bytes more e;
}
