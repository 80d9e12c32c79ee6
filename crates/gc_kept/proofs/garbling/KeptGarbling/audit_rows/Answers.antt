use Rattle.gc_kept.proofs.Names.{◌≡◌, ◌*◌, length, ap, arith, and_count, output_wires}
use Rattle.gc_kept.proofs.PieceLemmas.{length_rows, rows_spelled}
use Rattle.gc_kept.proofs.garbling.KeptGarbling.audit_rows.Goals as goal

pub returns-clause-ok : goal.returns-clause-ok
returns-clause-ok c =
    let bytes = c.args.rows.now in
    let circuit = c.circuit-circuit.ensures.same in
    let count = and_count c.self.inside.circuit.netlist in
    let size : length bytes ≡ 32 * count = omega (arith, ap and_count circuit) in
    let is = rows_spelled bytes count size (λ i. omega (arith, c.type_inv.rows i)) in
    rw (← c.self.view_is) (record {
      rows = is.0;
      rows_are = is.1;
      row_count = omega (arith, size, rw (← is.1.spelled) at (length_rows is.0));
      bits = c.in_ok-bits.bits.items;
      bits_are = c.in_ok-bits.ensures.bytes;
      bit_count = omega (arith, c.in_ok-bits.ensures.count, ap output_wires circuit);
      found_rows = (rw circuit at c.audit_row_bytes.ensures is.0 is.1.spelled is.1.each);
      found_bits = (rw c.deref.ensures.value at c.audit_bits.ensures);
    })
