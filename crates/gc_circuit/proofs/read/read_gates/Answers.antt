use Rattle.gc_circuit.proofs.Names.{length-append, ◌∙◌, arith, err_of}
use Rattle.gc_circuit.proofs.CheckLemmas.{marked_passes, stops_found, gates_push, turn_stops, gates_stop}
use Rattle.gc_circuit.proofs.read.read_gates.Goals as goal

pub returns-in_err-gate : goal.returns-in_err-gate
returns-in_err-gate g c =
    let p = err_of c.from_residual-in_err-gate.result c.from_residual-in_err-gate.ensures.1 in
    let before = c.loop-i.invariant in
    let stops = stops_found c.args.wires.inputs c.args.wires.count c.loop-i.body.gates.items
    c.deref.result.now (c.deref.ensures.value ∙ before.marked.table) _ _ _ _ _
    c.in_err-gate.ensures.stops in
    rw (p.1, p.2) (record {
      read = λ _. turn_stops _ _ _ _ _ _ _ _ _ _ _ c.loop-i-test.true before.read stops;
      marked = tt;
      stops = λ _. gates_stop _ _ _ _ _ _ _ _ _ _ _ c.loop-i-test.true before.read stops _
          before.len c.in_err-gate.ensures.in_gate;
      kept = c.in_err-gate.ensures.kept ∙ before.kept;
    })

pub loop-i-preserved : goal.loop-i-preserved
loop-i-preserved g c =
    let before = c.loop-i.invariant in
    let more = c.in_ok-push.ensures.more in
    record {
      marked = c.in_ok-push.ensures.marked _ _ before.marked;
      read = rw more (gates_push _ _ _ _ _ _ _ _ before.read c.in_ok-gate.ensures.read
          (marked_passes _ _ before.marked c.deref.ensures.value c.in_ok-gate.ensures.checked));
      len = rw more (simp length-append (omega (arith, before.len)));
      kept = c.in_ok-gate.ensures.kept ∙ before.kept;
    }
