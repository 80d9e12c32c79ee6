use Rattle.gc_command.proofs.Names.{◌≡◌, ◌<◌, ◌∙◌, true, false, get_or, length, arith}
use Rattle.gc_command.proofs.WireLemmas.{flag_read, opened, take_one}
use Rattle.gc_command.proofs.set_wires.SetWires.next.Goals as goal

pub returns-then-index-clause-left : goal.returns-then-index-clause-left
returns-then-index-clause-left g c =
    let flags = c.loop-wire.self-inside.is_set.items in
    let w = c.loop-wire.wire in
    let below : w < length flags = omega arith in
    let is : get_or flags w false ≡ true =
    flag_read flags w c.index.result.now below c.index.ensures ∙ c.if-index.true in
    (rw (opened w (length flags) below, is) at c.loop-wire.invariant.left)
    ∙ take_one _ w _ c.loop-wire.invariant.some

pub loop-wire-preserved : goal.loop-wire-preserved
loop-wire-preserved g c =
    let flags = c.loop-wire.self-inside.is_set.items in
    let w = c.loop-wire.wire in
    let below : w < length flags = omega arith in
    let not : get_or flags w false ≡ false =
    flag_read flags w c.index.result.now below c.index.ensures ∙ c.if-index.false in
    record {
      left = rw (opened w (length flags) below, not) at c.loop-wire.invariant.left;
      wires = c.loop-wire.invariant.wires;
      same = c.loop-wire.invariant.same;
      some = c.loop-wire.invariant.some;
    }
