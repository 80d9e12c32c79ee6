use Rattle.halfgates_c.proofs.Names.{drop-replicate, refl}
use Rattle.halfgates_c.proofs.explain.Sentence.of.Goals as goal

pub returns : goal.returns
returns c = rw (c.copy_from_slice.ensures.after, drop-replicate) refl
