use Rattle.halfgates_c.proofs.Names.{drop-replicate, refl}
use Rattle.halfgates_c.proofs.name.name_of.Goals as goal

pub returns : goal.returns
returns c = rw (c.copy_from_slice.ensures.after, drop-replicate) refl
