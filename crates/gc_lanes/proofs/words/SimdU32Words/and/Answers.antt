use Rattle.gc_lanes.proofs.Names.{bit_and, and_mod}
use Rattle.gc_lanes.proofs.WordLanes.{lane-zip2}
use Rattle.gc_lanes.proofs.words.SimdU32Words.and.Goals as goal

pub returns : goal.returns
returns g c = lane-zip2 bit_and (λ x y. and_mod x y 32) _ _ _ c.fits-self.0 c.fits-other.0
