use Rattle.gc_audit.proofs.Names.{◌≡◌, ◌<◌, ◌||◌, false, length, drop, replicate, slice_index_or, refl, ap, ◌∙◌, arith, length-replicate, get_or-replicate, reads, is_and, EachRead-map, table_step, length-table, EachRead-below, and_depth_rule, is_xor, is_inv, is_eq, is_eqw, depth_rule, none_deep, depths_in, depths_rule}
use Rattle.gc_audit.proofs.CountLemmas.{count_more}
use Rattle.gc_audit.proofs.DepthLemmas.{table_start, deepest_start, deepest_more, deepest_all, depths_local, depth_of-le}
use Rattle.gc_audit.proofs.ReadLemmas.{is_read-more, is_read-all, written_back}
use Rattle.gc_audit.proofs.survey.Survey.of.Goals as goal

pub loop-i-init : goal.loop-i-init
loop-i-init g c =
    let circuit = c.args.circuit.now in
    let wires = c.wires-wires.result in
    let table = c.in_ok-depths.depths.items in
    let depths : table ≡ replicate wires none_deep =
    c.in_ok-depths.ensures.items_if_clones_equal (λ y same. same) in
    let read : c.in_ok-read.read.items ≡ replicate wires false =
    c.in_ok-read.ensures.items_if_clones_equal (λ y same. same) in
    record {
      counts = record { xor = refl; and = refl; inv = refl; eq = refl; eqw = refl };
      table = table_start circuit wires table c.wires-wires.ensures.count depths;
      depth = deepest_start circuit wires table (λ d. d.depth) refl depths;
      and_depth = deepest_start circuit wires table (λ d. d.and_depth) refl depths;
      long = ap length read ∙ length-replicate wires false ∙ c.wires-wires.ensures.count;
      read = λ w below. ap (λ t. slice_index_or t w false) read
          ∙ get_or-replicate wires w false false (omega (arith, c.wires-wires.ensures.count));
    }

pub of-reached-requires-clause-wires : goal.of-reached-requires-clause-wires
of-reached-requires-clause-wires g c =
    let long = length-table _ c.args.circuit.now.wires _ c.loop-i.invariant.table in
    EachRead-map (λ w. w < c.args.circuit.now.wires) (λ w. w < length c.deref.result.now)
    c.gate-gate.result.operation (λ w h. omega (arith, long, ap length c.deref.ensures.value, h))
    (EachRead-below c.args.circuit.now c.wires-wires.ensures.lawful c.loop-i.i c.gate-gate.result
    c.gate-gate.ensures)

pub index_mut-requires : goal.index_mut-requires
index_mut-requires g c = omega (
  arith,
  length-table _ c.args.circuit.now.wires _ c.loop-i.invariant.table,
  c.wires-wires.ensures.lawful.sets c.loop-i.i c.gate-gate.result c.gate-gate.ensures,
)

pub loop-i-preserved : goal.loop-i-preserved
loop-i-preserved g c =
    let circuit = c.args.circuit.now in
    let lawful = c.wires-wires.ensures.lawful in
    let i = c.loop-i.i in
    let gate = c.gate-gate.result in
    let at = c.gate-gate.ensures in
    let table = c.loop-i.depths.items in
    let reached = c.of-reached.result in
    let before = c.loop-i.invariant in
    let more = count_more circuit.gates i gate at in
    let place : gate.set < length table =
    omega (arith, length-table _ circuit.wires _ before.table, lawful.sets i gate at) in
    let found : reached ≡ depths_rule (depths_in table) i gate =
    c.of-reached.ensures ∙ ap (λ t. depths_rule (depths_in t) i gate) c.deref.ensures.value in
    let marked = c.mark_read.new.read in
    let same_length : length marked ≡ length c.loop-i.read.items =
    c.mark_read.auto.read ∙ ap length c.deref_mut.ensures.value in
    let back = written_back c.loop-i.read.len marked (drop (length marked) c.loop-i.read.items)
    (c.mark_read.auto.read ∙ c.deref_mut.ensures.len) in
    record {
      counts = record {
        xor = more (λ x. is_xor x.operation) _ _ before.counts.xor c.add.ensures.xor;
        and = more (λ x. is_and x.operation) _ _ before.counts.and c.add.ensures.and;
        inv = more (λ x. is_inv x.operation) _ _ before.counts.inv c.add.ensures.inv;
        eq = more (λ x. is_eq x.operation) _ _ before.counts.eq c.add.ensures.eq;
        eqw = more (λ x. is_eqw x.operation) _ _ before.counts.eqw c.add.ensures.eqw;
      };
      table = table_step depths_rule depths_local circuit lawful
          (λ w. none_deep) table i gate none_deep reached
          before.table at found;
      depth = deepest_more circuit lawful i gate at table place
          (λ d. d.depth) reached _ _ before.depth
          (rw found (depth_of-le
          (λ w. (depths_in table w).depth) gate.operation _ before.depth.most).0)
          c.max-deepest.ensures.depth;
      and_depth = deepest_more circuit lawful i gate at table place
          (λ d. d.and_depth) reached _ _ before.and_depth
          (rw found
          (depth_of-le (λ w. (depths_in table w).and_depth) gate.operation _
          before.and_depth.most).1)
          c.max-deepest.ensures.and_depth;
      long = ap length back ∙ same_length ∙ before.long;
      read = λ w below. ap (λ t. slice_index_or t w false) back
          ∙ c.mark_read.ensures w (omega (arith, ap length c.deref_mut.ensures.value, before.long))
          ∙ ap (λ t. slice_index_or t w false || reads gate.operation w) c.deref_mut.ensures.value
          ∙ ap (λ b. b || reads gate.operation w) (before.read w below)
          ∙ is_read-more circuit.gates i gate w at;
    }

pub returns-clause-depth : goal.returns-clause-depth
returns-clause-depth g c =
    deepest_all c.args.circuit.now c.wires-wires.ensures.lawful c.loop-i.i c.loop-i.depths.items
    (λ d. d.depth)
    (omega (arith, c.gates-i-end.ensures.count)) c.loop-i.invariant.table depth_rule refl
    (λ on k gate. refl)
    c.loop-i.deepest.depth c.loop-i.invariant.depth

pub returns-clause-and_depth : goal.returns-clause-and_depth
returns-clause-and_depth g c =
    deepest_all c.args.circuit.now c.wires-wires.ensures.lawful c.loop-i.i c.loop-i.depths.items
    (λ d. d.and_depth)
    (omega (arith, c.gates-i-end.ensures.count)) c.loop-i.invariant.table and_depth_rule refl
    (λ on k gate. refl)
    c.loop-i.deepest.and_depth c.loop-i.invariant.and_depth

pub returns-clause-read : goal.returns-clause-read
returns-clause-read g c =
    is_read-all c.args.circuit.now.gates c.loop-i.i c.args.circuit.now.wires c.loop-i.read.items
    (omega (arith, c.gates-i-end.ensures.count)) c.loop-i.invariant.long c.loop-i.invariant.read
