use Rattle.gc_circuit.proofs.Names.{length, ap, ◌∙◌, arith, length-table, table_end}
use Rattle.gc_circuit.proofs.eval.plain_eval.Goals as goal

pub split_at-requires : goal.split_at-requires
split_at-requires g c =
    let l = length-table _ _ _ c.in_ok-bits.ensures.in_order in
    omega (arith, l, ap length c.deref.ensures.value, c.wires.ensures.count)

pub returns : goal.returns
returns g c =
    let b = c.in_ok-bits.ensures in
    record {
      bits = b.bits;
      assignment = b.assignment;
      last = c.in_ok-from_slice.ensures.items ∙ c.split_at.ensures.back
          ∙ rw (c.deref.ensures.value, b.in_order, c.wires.ensures.count, c.output_wires.ensures)
          (table_end _ c.args.circuit.now.wires _ c.wires.ensures.lawful.outputs_fit);
    }
