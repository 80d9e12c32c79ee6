use Rattle.gc_lanes.proofs.Names.{◌≡◌, ◌%◌, ◌-◌, arith, zip2-map, zip2_splat}
use Rattle.gc_lanes.proofs.Rotations.{rotated, rotated-lt}
use Rattle.gc_lanes.proofs.WordLanes.{lane-map}
use Rattle.gc_lanes.proofs.words.SimdU32Words.rotate_right.Goals as goal

-- two shifts rotate
pub returns : goal.returns
returns g c =
    let k = c.args.count in
    let long = c.fits-self.0 in
    let down : k % 32 ≡ k = omega arith in
    let up : (32 - k) % 32 ≡ 32 - k = omega arith in
    rw (zip2_splat, zip2_splat, zip2-map, down, up)
    (lane-map (λ x. rotated x k) (λ x. rotated-lt x k) _ _ c.fits-self)
