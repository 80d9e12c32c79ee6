use Rattle.gc_lanes.proofs.Names.{bit_xor, xor_mod}
use Rattle.gc_lanes.proofs.WordLanes.{lane-zip2}
use Rattle.gc_lanes.proofs.words.SimdU32Words.xor.Goals as goal

pub returns : goal.returns
returns g c = lane-zip2 bit_xor (λ x y. xor_mod x y 32) _ _ _ c.fits-self.0 c.fits-other.0
