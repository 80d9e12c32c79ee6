use Rattle.gc_half.proofs.Names.{◌∙◌, ◌-◌, ap, drop, output_wires, table_end}
use Rattle.gc_half.proofs.evaluate.output_labels.Goals as goal

pub returns-clause-last : goal.returns-clause-last
returns-clause-last g c = λ values is.
    let netlist = c.args.circuit.now in
    c.split_at.ensures.back ∙ rw (c.wires.ensures.count, c.output_wires.ensures)
    (ap (drop (netlist.wires - output_wires netlist)) is
    ∙ table_end values netlist.wires (output_wires netlist) c.wires.ensures.lawful.outputs_fit)
