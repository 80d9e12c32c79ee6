use Rattle.gc_store.proofs.Names.{◌<◌, length-set, refl, ◌∙◌, arith, get_or_read, read_count}
use Rattle.gc_store.proofs.ReadersLemmas.{counted_none, still_counted, counted_more, counted_all}
use Rattle.gc_store.proofs.readers.Readers.count_down.Goals as goal

pub loop-read-init : goal.loop-read-init
loop-read-init g c =
    let linked = rw (← c.self.view_is) at c.requires.linked in
    let first = get_or_read c.self.inside.firsts.items c.args.wire _
    (omega (arith, linked.wires)) c.index-read.ensures 0 in
    record {
      marks = refl;
      countdowns = refl;
      counted = rw first (counted_none c.args.circuit.now c.args.wire _ c.args.queue.now.countdowns
          (linked.first c.args.wire c.requires.wire));
    }

pub count_down-requires : goal.count_down-requires
count_down-requires g c =
    let counted = c.loop-read.invariant.counted in
    let below : c.loop-read.read < read_count c.args.circuit.now =
    omega (arith, c.gates-reads.ensures.count) in
    still_counted _ _ _ _ _ _ c.requires.counted counted below
    (c.requires.linked.next c.loop-read.read c.args.wire (omega arith) (counted.here below))

pub loop-read-preserved : goal.loop-read-preserved
loop-read-preserved g c =
    let counted = c.loop-read.invariant.counted in
    let below : c.loop-read.read < read_count c.args.circuit.now =
    omega (arith, c.gates-reads.ensures.count) in
    let linked = rw (← c.self.view_is) at c.requires.linked in
    let after = linked.next c.loop-read.read c.args.wire (omega arith) (counted.here below) in
    let next = get_or_read c.self.inside.nexts.items c.loop-read.read _
    (omega (arith, linked.reads)) c.index-read-in-loop-read.ensures 0 in
    record {
      marks = c.count_down.ensures.marks ∙ c.loop-read.invariant.marks;
      countdowns =
          rw (c.count_down.ensures.countdowns, length-set) c.loop-read.invariant.countdowns;
      counted = rw (c.count_down.ensures.countdowns, next)
          (counted_more _ _ _ _ _ _ c.requires.counted counted below after);
    }

pub returns-clause-counted : goal.returns-clause-counted
returns-clause-counted g c = counted_all _ _ _ _ _ c.loop-read.invariant.counted
    (omega (arith, c.loop-read-test.false, c.gates-reads.ensures.count))
