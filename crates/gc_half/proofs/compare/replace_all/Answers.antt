use Rattle.gc_half.proofs.Names.{◌≡◌, refl, take_all, arith, and_count, get_or_past}
use Rattle.gc_half.proofs.GarbleLemmas.{garbled-whole}
use Rattle.gc_half.proofs.compare.replace_all.Goals as goal

pub returns-clause-garbled : goal.returns-clause-garbled
returns-clause-garbled g c = λ given begun.
    let netlist = c.args.circuit.now in
    let end = c.loop-piece.garbler in
    let before = c.loop-piece.invariant in
    let whole : end.made ≡ and_count netlist = c.loop-piece-test.ensures.0 refl in
    let is = rw (take_all end.made c.loop-piece.rows (omega (arith, whole)))
    at (before.so_far given begun) in
    rw (c.into_labels.ensures, ← before.offset, ← before.numbered)
    (garbled-whole end.first end.offset netlist given c.law_lawful.ensures
    (λ w past. get_or_past given w 0 (omega (arith, is.inputs, past))) end.labels c.loop-piece.rows
    is.wires (rw (before.begun.whole whole) at is.garbled))
