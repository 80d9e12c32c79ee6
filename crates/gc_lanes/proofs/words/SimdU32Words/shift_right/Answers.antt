use Rattle.gc_lanes.proofs.Names.{ℕ, ◌/◌, ◌^◌, arith, shr_le, zip2_splat}
use Rattle.gc_lanes.proofs.WordLanes.{lane-map}
use Rattle.gc_lanes.proofs.words.SimdU32Words.shift_right.Goals as goal

pub returns : goal.returns
returns g c =
    let k = c.args.count in
    let right = λ (x i : ℕ). x / 2 ^ i in
    rw (zip2_splat right c.args.self g.row.N k c.fits-self.0)
    (lane-map (λ x. x / 2 ^ k) (λ x fits. omega (arith, shr_le x k)) _ _ c.fits-self)
