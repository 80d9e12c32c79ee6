use Rattle.gc_kept.proofs.Names.{◌≡◌, ◌∙◌, ◌+◌, ◌-◌, ◌*◌, ◌<◌, length, drop, [], refl, arith, length-drop, length-take, get_or-take, get_or-drop, IsGarblingUnder}
use Rattle.gc_kept.proofs.ManyLemmas.{all_more, two_more}
use Rattle.gc_kept.proofs.circuit.KeptCircuit.garble_many.Goals as goal

pub loop-i-preserved : goal.loop-i-preserved
loop-i-preserved c =
    rw (c.in_ok-push-2.ensures.items, c.in_ok-push.ensures.items)
    (two_more (IsGarblingUnder c.args.self.now) c.args.seeds.now _ c.loop-i.i [] _ _ _ _
    (omega arith) refl refl c.loop-i.invariant c.in_ok-one.ensures.one c.in_ok-one.ensures.other)

pub loop-seed-preserved : goal.loop-seed-preserved
loop-seed-preserved c =
    let seeds = c.args.seeds.now in
    let first = 2 * c.if-side_by_side.pairs in
    let i = c.loop-seed.seed-index in
    let rest = length seeds - first in
    let long = length-take rest (drop first seeds) in
    let below : i < rest = omega (arith, length-drop first seeds) in
    let place : first + (i + 1) ≡ first + i + 1 = omega arith in
    rw (c.in_ok-push-3.ensures.items, place)
    (all_more (IsGarblingUnder c.args.self.now) seeds _ (first + i) [] _ _ (omega arith)
    (get_or-take rest (drop first seeds) i [] below ∙ get_or-drop first seeds i [])
    c.loop-seed.invariant c.in_ok-garble.ensures.ok)
