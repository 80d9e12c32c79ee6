use Rattle.gc_command.proofs.Names.{◌∙◌, refl, arith, take_all, length-table, start_table}
use Rattle.gc_command.proofs.WireLemmas.{flags_more}
use Rattle.gc_command.proofs.set_wires.flags.Goals as goal

pub loop-i-init : goal.loop-i-init
loop-i-init g c =
    let wires = c.wires-2.result in
    start_table c.input_wires.result wires _ _ _ _ _
    (omega (
      arith,
      c.wires.ensures.lawful.inputs_fit,
      c.input_wires.ensures,
      c.wires-2.ensures.count,
    ))
    c.in_ok-is_set.ensures.items c.in_ok-is_set.ensures.len c.in_ok-resize.ensures.items
    c.in_ok-resize.ensures.len c.in_ok-resize-2.ensures.items
    ∙ rw (c.input_wires.ensures, c.wires-2.ensures.count) refl

pub index_mut-requires : goal.index_mut-requires
index_mut-requires g c = omega (
  arith,
  length-table _ c.args.circuit.now.wires _ c.loop-i.invariant,
  c.wires.ensures.lawful.sets c.loop-i.i c.gate-wire.result c.gate-wire.ensures,
)

pub loop-i-preserved : goal.loop-i-preserved
loop-i-preserved g c =
    flags_more _ _ c.loop-i.i _ _ _ c.gate-wire.ensures
    (c.wires.ensures.lawful.sets c.loop-i.i c.gate-wire.result c.gate-wire.ensures)
    c.loop-i.invariant

pub returns : goal.returns
returns g c =
    let whole = take_all c.loop-i.i c.args.circuit.now.gates
    (omega (arith, c.loop-i-test.false, c.gates-i-end.ensures.count)) in
    rw whole at c.loop-i.invariant
