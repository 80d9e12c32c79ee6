use Rattle.gc_circuit.proofs.Names.{◌+◌, drop, inr, length-append, ap, ◌∙◌, arith, err_of, gate_at, tokens_of}
use Rattle.gc_circuit.proofs.CheckLemmas.{marked_passes, stops_found, gates_push, gates_stop}
use Rattle.gc_circuit.proofs.ArrayLemmas.{gate_next, words_more}
use Rattle.gc_circuit.proofs.arrays.check_gates.Goals as goal

pub returns-in_err-gate-clause-stops : goal.returns-in_err-gate-clause-stops
returns-in_err-gate-clause-stops g c =
    let p = err_of c.from_residual-in_err-gate.result c.from_residual-in_err-gate.ensures.1 in
    let before = c.loop-i.invariant in
    let e = c.in_err-gate.ensures in
    let numbers = c.args.numbers.now in
    let (left, here) = e.stops (tokens_of (drop (c.loop-i.i + 1) numbers)) in
    let found = stops_found c.args.wires.inputs c.args.wires.count c.loop-i.body.gates.items
    c.deref.result.now (c.deref.ensures.value ∙ before.marked.table) _ left _ _ _ here in
    let at = gate_next numbers c.loop-i.i _ c.loop-i-test.true in
    rw (p.1, p.2) (inr (
      left,
      gates_stop _ _ _ _ _ _ _ _ _ _ _ c.loop-i-test.true before.read
          (rw at found) _ before.len e.in_gate,
    ))

pub loop-i-preserved : goal.loop-i-preserved
loop-i-preserved g c =
    let before = c.loop-i.invariant in
    let next = c.in_ok-gate.ensures in
    let more = c.in_ok-push.ensures.more in
    let numbers = c.args.numbers.now in
    let i = c.loop-i.i in
    record {
      marked = c.in_ok-push.ensures.marked _ _ before.marked;
      read = rw more (gates_push _ _ _ _ _ _ _ _ before.read
          (ap gate_at (gate_next numbers i _ c.loop-i-test.true)
          ∙ next.read (tokens_of (drop (i + 1) numbers)))
          (marked_passes _ _ before.marked c.deref.ensures.value next.checked));
      words = rw more (words_more _ _ _ c.loop-i-test.true _ _ before.words next.words);
      len = rw more (simp length-append (omega (arith, before.len)));
    }
