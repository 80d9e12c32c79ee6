use Rattle.gc_lanes.proofs.Names.{◌≡◌, ◌+◌, ◌-◌, ◌*◌, ◌/◌, List, ℕ, take, drop, ap, refl, ◌∙◌, arith, take-take, hash_after}
use Rattle.gc_lanes.proofs.Chains.{hash_after-joined}
use Rattle.gc_lanes.proofs.chain.compress_eights.Goals as goal

pub parts-preserved : goal.parts-preserved
parts-preserved c =
    let p = c.args.blocks.now in
    let n : ℕ = 8 * c.parts.part in
    let start : n * 64 ≡ 512 * c.parts.part = omega arith in
    let width : 512 * c.parts.part + 512 - 512 * c.parts.part ≡ 512 = omega arith in
    let more : n + 8 ≡ 8 * (c.parts.part + 1) = omega arith in
    let eight : List ℕ = take (512 * c.parts.part + 512 - 512 * c.parts.part)
    (drop (512 * c.parts.part) p) in
    c.compress_each.ensures eight c.schedules.ensures
    ∙ ap (λ (h : List ℕ). hash_after h eight 8) c.parts.invariant
    ∙ hash_after-joined c.args.hash.now p eight n 8
    (rw (width, start) (take-take 512 512 (drop (512 * c.parts.part) p) (omega arith)))
    ∙ ap (hash_after c.args.hash.now p) more
