use Rattle.gc_half.proofs.Names.{◌∙◌, drop, length, refl, input_labels, take_at}
use Rattle.gc_half.proofs.NumberedLemmas.{garbled-under-seed}
use Rattle.gc_half.proofs.compare.garble_and_compare.Goals as goal

pub returns-clause-garbled : goal.returns-clause-garbled
returns-clause-garbled g c =
    let netlist = c.args.circuit.now in
    let seed = c.args.seed.now in
    let begun = c.in_ok-garbler.ensures in
    let given = input_labels netlist seed in
    let made = c.replace_all-labels.new.rows in
    let rows = take_at made (drop (length made) c.args.given.items) c.args.given.len
    (c.replace_all-labels.auto.rows ∙ c.deref_mut.ensures.len) in
    rw (c.from_parts-garbling.ensures, rows, c.output_wires.ensures)
    (garbled-under-seed netlist seed given _ _ refl begun.offset
    (rw begun.first at (c.replace_all-labels.ensures.garbled given begun.so_far)))
