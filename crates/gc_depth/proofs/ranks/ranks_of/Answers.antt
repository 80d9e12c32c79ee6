use Rattle.gc_depth.proofs.Names.{◌≡◌, ◌<◌, length, slice_index, not, ap, ◌∙◌, arith, from_bool, is_and, EachRead-map, and_depth_of}
use Rattle.gc_netlist.proofs.Tables.{length-table, EachRead-below}
use Rattle.gc_depth.proofs.TableLemmas.{ranked_start, set_inside, ranked_more}
use Rattle.gc_depth.proofs.ranks.ranks_of.Goals as goal

pub loop-i-init : goal.loop-i-init
loop-i-init g c = ranked_start _ _ _ _ c.wires.ensures.count c.in_ok-depths.ensures
    c.in_ok-of_gates.ensures.items

pub and_depth-depth-requires-clause-wires : goal.and_depth-depth-requires-clause-wires
and_depth-depth-requires-clause-wires g c =
    let long = ap length c.deref.ensures.value ∙ length-table _ _ _ c.loop-i.invariant.depths in
    EachRead-map (λ w. w < c.args.circuit.now.wires) (λ w. w < length c.deref.result.now)
    c.gate-gate.result.operation (λ w h. omega (arith, long, h))
    (EachRead-below c.args.circuit.now c.wires.ensures.lawful c.loop-i.i c.gate-gate.result
    c.gate-gate.ensures)

pub index_mut-requires : goal.index_mut-requires
index_mut-requires g c =
    let inside = set_inside _ c.wires.ensures.lawful _ _ _ _ c.loop-i.invariant _
    c.gate-gate.ensures in
    omega (arith, inside)

pub loop-i-preserved : goal.loop-i-preserved
loop-i-preserved g c =
    let gate = c.gate-gate.result in
    let deep = c.and_depth-depth.ensures
    ∙ ap (λ t. and_depth_of (slice_index t) gate.operation) c.deref.ensures.value in
    let odd : c.from.result ≡ from_bool (not (is_and gate.operation)) =
    c.from.ensures ∙ ap (λ t. from_bool (not t)) c.is_and.ensures in
    rw c.in_ok-push.ensures.items (ranked_more _ c.wires.ensures.lawful _ _ _ _ c.loop-i.invariant
    gate c.gate-gate.ensures _ _ _ deep odd c.max-end.ensures)
