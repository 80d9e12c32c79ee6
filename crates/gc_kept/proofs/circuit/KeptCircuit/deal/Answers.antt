use Rattle.gc_kept.proofs.Names.{offset_of, ◌≡◌, ◌∙◌, length, take, ap, arith, sum, input_label_of, first_wire-room, length-encoded_with, Netlist, Memory, of_file}
use Rattle.gc_kept.proofs.OutcomeLemmas.{if_err}
use Rattle.gc_kept.proofs.LabelFileLemmas.{dealt_under, length-dealt}
use Rattle.gc_kept.proofs.circuit.KeptCircuit.deal.Goals as goal

pub returns-in_err-bits-clause-fault : goal.returns-in_err-bits-clause-fault
returns-in_err-bits-clause-fault c =
    if_err _ _ c.from_residual.ensures.1 (c.in_err-bits.ensures.fault _ _)

pub zero_labels-requires : goal.zero_labels-requires
zero_labels-requires c =
    let room = first_wire-room c.args.self.now.netlist c.circuit.ensures.lawful
    c.args.given.input.index _ c.in_ok-bits.ensures.width in
    grind arith

pub returns-in_err-zero_labels-clause-fault : goal.returns-in_err-zero_labels-clause-fault
returns-in_err-zero_labels-clause-fault c =
    if_err _ _ c.from_residual-in_err-zero_labels.ensures.1
    (of_file _ Memory c.in_ok-bits.ensures.bytes c.in_ok-bits.ensures.width tt)

pub returns-in_err-labels-clause-fault : goal.returns-in_err-labels-clause-fault
returns-in_err-labels-clause-fault c =
    if_err _ _ c.from_residual-in_err-labels.ensures.1
    (of_file _ Memory c.in_ok-bits.ensures.bytes c.in_ok-bits.ensures.width tt)

pub returns-clause-ok : goal.returns-clause-ok
returns-clause-ok c =
    let index = c.args.given.input.index in
    let bits = c.in_ok-bits.bits.items in
    let seed = c.args.given.seed.now in
    let made = c.from_bytes-seed.result in
    let first = c.first_wire-first.result in
    let long : c.len.result ≡ length bits = omega arith in
    let labels = c.deref-3.ensures.value
    ∙ (rw c.deref-2.ensures.value at c.in_ok-labels.ensures.labels)
    ∙ dealt_under c.offset.result made c.deref.result.now first bits
    (c.deref.ensures.value ∙ (rw long at c.in_ok-zero_labels.ensures.labels)) in
    let from = c.first_wire-first.ensures
    ∙ ap (λ (n : Netlist). sum (take index n.input_widths)) c.circuit.ensures.same in
    record {
      bits = bits;
      bytes_are = c.in_ok-bits.ensures.bytes;
      width = c.in_ok-bits.ensures.width;
      file = (rw (labels, c.offset.ensures, c.from_bytes-seed.ensures, from)
          at c.write_file.ensures.file);
      count = omega (
        arith,
        ap length labels,
        length-encoded_with c.offset.result (input_label_of made) first bits,
        length-dealt c.args.self.now.netlist (offset_of seed) (input_label_of seed) index bits,
      );
    }
