use Rattle.gc_half.proofs.Names.{◌≡◌, ◌∙◌, length, refl, sym, arith, EachRead-map, hash, numbered_from}
use Rattle.gc_half.proofs.GarbleLemmas.{few_rows, count_rows, garbled-start, garbled-end, garbled-next}
use Rattle.gc_half.proofs.two.garble_both.Goals as goal

pub loop-i-init : goal.loop-i-init
loop-i-init g c =
    let lawful = c.gates-i-end.ensures.lawful in
    let h = numbered_from 0 hash in
    rw (c.requires.none, c.requires.no_other)
    (record {
      offset = refl;
      other_offset = refl;
      one = garbled-start h c.args.one.offset c.args.circuit.now c.args.one.labels.items
          (omega (arith, c.requires.one)) (omega (arith, c.requires.one, lawful.inputs_fit));
      other = garbled-start h c.args.other.offset c.args.circuit.now c.args.other.labels.items
          (omega (arith, c.requires.other)) (omega (arith, c.requires.other, lawful.inputs_fit));
    })

pub step-requires : goal.step-requires
step-requires g c =
    let lawful = c.gates-i-end.ensures.lawful in
    let reads = lawful.reads c.loop-i.i c.gate.result c.gate.ensures in
    let is = c.loop-i.invariant in
    record {
      read = EachRead-map _ _ _ is.one.there reads;
      other_read = EachRead-map _ _ _ is.other.there reads;
      place = omega (arith, lawful.sets c.loop-i.i c.gate.result c.gate.ensures);
      few = omega (arith, is.one.few);
      other_few = omega (arith, is.other.few);
      number = omega (arith, few_rows _ _ _ _ _ _ _ is.one);
      same = count_rows _ _ _ _ _ _ _ is.other ∙ sym (count_rows _ _ _ _ _ _ _ is.one);
    }

pub loop-i-preserved : goal.loop-i-preserved
loop-i-preserved g c =
    let lawful = c.gates-i-end.ensures.lawful in
    let wires = c.wires.ensures.count in
    let at = c.gate.ensures in
    let before = c.loop-i.invariant in
    let step = c.in_ok-step.ensures in
    record {
      offset = step.offset ∙ before.offset;
      other_offset = step.other_offset ∙ before.other_offset;
      one = garbled-next _ _ _ _ lawful _ _ at _ _ _ _ before.one
          (rw (before.offset, wires) at step.one);
      other = garbled-next _ _ _ _ lawful _ _ at _ _ _ _ before.other
          (rw (before.other_offset, wires) at step.other);
    }

pub returns : goal.returns
returns g c =
    let netlist = c.args.circuit.now in
    let lawful = c.gates-i-end.ensures.lawful in
    let before = c.loop-i.invariant in
    let ends : c.loop-i.i ≡ length netlist.gates = omega arith in
    record {
      one = rw c.in_ok-finish.ensures (garbled-end 0 _ netlist _ lawful c.requires.one _ _
          (rw (← ends) before.one));
      other = rw c.in_ok-finish-2.ensures (garbled-end 0 _ netlist _ lawful c.requires.other _ _
          (rw (← ends) before.other));
    }
