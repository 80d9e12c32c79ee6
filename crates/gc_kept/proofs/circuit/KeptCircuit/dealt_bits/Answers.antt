use Rattle.gc_kept.proofs.Names.{arith, no_value, of_bits, of_file}
use Rattle.gc_kept.proofs.OutcomeLemmas.{if_err}
use Rattle.gc_kept.proofs.LabelFileLemmas.{length-dealt}
use Rattle.gc_kept.proofs.circuit.KeptCircuit.dealt_bits.Goals as goal

pub returns-in_err-width-clause-fault : goal.returns-in_err-width-clause-fault
returns-in_err-width-clause-fault c = λ offset zero_label.
    if_err _ _ c.from_residual.ensures.1
    (rw c.in_err-width.ensures.fault.0 (no_value c.in_err-width.ensures.fault.1))

pub returns-in_err-bits-clause-fault : goal.returns-in_err-bits-clause-fault
returns-in_err-bits-clause-fault c = λ offset zero_label.
    if_err _ _ c.from_residual-in_err-bits.ensures.1
    (of_bits c.in_ok-width.width _ c.in_ok-width.ensures.ok c.in_err-bits.ensures.fault)

pub returns-in_err-has_file_room-clause-fault : goal.returns-in_err-has_file_room-clause-fault
returns-in_err-has_file_room-clause-fault c = λ offset zero_label.
    let a = c.args in
    let bits = c.in_ok-bits.bits.items in
    let count = c.in_ok-bits.ensures.count in
    let lacks = c.in_err-has_file_room.ensures.fault in
    let long = length-dealt a.self.now.netlist offset zero_label a.input.index bits in
    if_err _ _ c.from_residual-in_err-has_file_room.ensures.1 (of_file bits _
    c.in_ok-bits.ensures.bytes (rw count c.in_ok-width.ensures.ok)
    (rw (lacks.0, long) (omega (arith, lacks.1), omega arith)))

pub returns-clause-width : goal.returns-clause-width
returns-clause-width c = rw c.in_ok-bits.ensures.count c.in_ok-width.ensures.ok
