use Rattle.gc_kept.proofs.Names.{◌≡◌, ◌+◌, ap, arith, and_count, length-drop}
use Rattle.gc_kept.proofs.StreamingLemmas.{makes-more, length-put_rest}
use Rattle.gc_kept.proofs.garbler.KeptGarbler.write_next.Goals as goal

pub returns-then-written-eq0-clause-makes : goal.returns-then-written-eq0-clause-makes
returns-then-written-eq0-clause-makes c =
    let l = c.loop-rows in
    let none : l.done + c.write_some-written.result ≡ l.done = omega arith in
    rw none at
    (makes-more _ l.self _ c.args.buffer.now l.buffer c.write_some-written.new.buffer l.done _
    l.invariant.makes c.write_some-written.ensures.makes l.invariant.within)

pub loop-rows-preserved : goal.loop-rows-preserved
loop-rows-preserved c =
    let l = c.loop-rows in
    let some = c.write_some-written in
    let long = length-put_rest l.done l.buffer _ l.invariant.within some.auto.buffer in
    record {
      makes = makes-more _ l.self _ c.args.buffer.now l.buffer some.new.buffer l.done _
          l.invariant.makes some.ensures.makes l.invariant.within;
      within = omega (arith, length-drop l.done l.buffer);
      few = omega (arith, ap and_count l.invariant.makes.circuit);
    }
