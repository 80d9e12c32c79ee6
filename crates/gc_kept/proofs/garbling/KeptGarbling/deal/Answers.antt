use Rattle.gc_kept.proofs.Names.{◌≡◌, ◌∙◌, length, take, ap, arith, slice_index, sum, length-encoded_with, Memory, GarblingWith, of_file}
use Rattle.gc_kept.proofs.OutcomeLemmas.{if_err}
use Rattle.gc_kept.proofs.LabelFileLemmas.{dealt_from, length-dealt}
use Rattle.gc_kept.proofs.garbling.KeptGarbling.deal.Goals as goal

pub returns-in_err-bits-clause-fault : goal.returns-in_err-bits-clause-fault
returns-in_err-bits-clause-fault c =
    if_err _ _ c.from_residual.ensures.1
    (rw (← c.circuit.ensures.netlist) (c.in_err-bits.ensures.fault _ _))

pub returns-in_err-labels-clause-fault : goal.returns-in_err-labels-clause-fault
returns-in_err-labels-clause-fault c =
    if_err _ _ c.from_residual-in_err-labels.ensures.1 (of_file _ Memory c.in_ok-bits.ensures.bytes
    (rw c.circuit.ensures.netlist at c.in_ok-bits.ensures.width) tt)

pub input_zero_labels-zero_labels-requires : goal.input_zero_labels-zero_labels-requires
input_zero_labels-zero_labels-requires c =
    let long : c.len.result ≡ length c.in_ok-bits.bits.items = omega arith in
    rw long (rw c.circuit.ensures.netlist at c.in_ok-bits.ensures.width)

pub returns-clause-ok : goal.returns-clause-ok
returns-clause-ok c =
    let g = c.args.self.now in
    let index = c.args.input.index in
    let bits = c.in_ok-bits.bits.items in
    let all = g.garbling.zero_labels in
    let zeros = c.input_zero_labels-zero_labels in
    let first = sum (take index g.circuit.input_widths) in
    let long : c.len.result ≡ length bits = omega arith in
    let offset = ap (λ (it : GarblingWith). it.offset) c.self.view_is in
    let labels = c.deref-2.ensures.value
    ∙ (rw c.deref.ensures.value at c.in_ok-labels.ensures.labels)
    ∙ dealt_from c.self.inside.offset all zeros.result.now first bits
    (rw long at zeros.ensures.labels) in
    record {
      bits = bits;
      bytes_are = c.in_ok-bits.ensures.bytes;
      width = (rw c.circuit.ensures.netlist at c.in_ok-bits.ensures.width);
      file = (rw (labels, offset) at c.write_file.ensures.file);
      count = omega (
        arith,
        ap length labels,
        length-encoded_with c.self.inside.offset (slice_index all) first bits,
        length-dealt g.circuit g.offset (slice_index all) index bits,
      );
    }
