use Rattle.gc_half.proofs.Names.{◌≡◌, ◌∙◌, arith, EachRead-map}
use Rattle.gc_half.proofs.AndNumbers.{and_number-le}
use Rattle.gc_half.proofs.PieceLemmas.{and_number-next, ends-before, piece-count, piece-next}
use Rattle.gc_half.proofs.garble.garble_piece.Goals as goal

pub step-requires : goal.step-requires
step-requires g c =
    let netlist = c.args.circuit.now in
    let lawful = c.law_lawful.ensures in
    let i = c.loop-i.i in
    let at = c.gate-gate.ensures in
    let begun = c.requires.begun in
    let start = begun.4 in
    let is = c.loop-i.invariant.garbled _ _ _ _ start in
    let first_count = piece-count begun.0 begun.1 netlist begun.2 begun.3 _ _ _ start in
    let count = piece-count begun.0 begun.1 netlist begun.2 begun.3 _ _ _ is in
    record {
      read = EachRead-map _ _ _ is.garbled.there (lawful.reads i c.gate-gate.result at);
      place = omega (arith, lawful.sets i c.gate-gate.result at);
      once = is.waiting c.gate-gate.result.set (lawful.sets_once i c.gate-gate.result at);
      room = omega (arith, c.in-Some.ensures);
      number = omega (arith, and_number-le netlist i);
    }

pub loop-i-preserved : goal.loop-i-preserved
loop-i-preserved g c =
    let netlist = c.args.circuit.now in
    let i = c.loop-i.i in
    let at = c.gate-gate.ensures in
    let step = c.step.ensures in
    record {
      garbled = λ r first given before began.
          piece-next r first netlist given before c.law_lawful.ensures i c.gate-gate.result at
          _ _ _ _ (c.loop-i.invariant.garbled r first given before began) step.offset step.numbered
          step.labels step.rows step.counted step.waiting;
      rest = λ k past.
          step.rest k past ∙ c.loop-i.invariant.rest k (omega (arith, past, step.counted));
      left = omega (arith, c.in-Some.ensures, and_number-next netlist i c.gate-gate.result at);
    }

pub returns-in_default-clause-ends : goal.returns-in_default-clause-ends
returns-in_default-clause-ends g c =
    ends-before c.args.circuit.now c.loop-i.invariant.left c.gate-gate.ensures
    c.in_default.ensures.0 c.in_default.ensures.1 (omega (arith, c.loop-i.auto.i))

pub returns-clause-garbled : goal.returns-clause-garbled
returns-clause-garbled g c =
    let ends : c.loop-i.i ≡ c.gates.result = omega arith in
    rw (← ends) c.loop-i.invariant.garbled
