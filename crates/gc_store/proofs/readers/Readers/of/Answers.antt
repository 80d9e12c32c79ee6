use Rattle.std.proofs.Common.{◌≡◌, arith}
use Rattle.gc_store.proofs.ReadersLemmas.{link_no_wire, link_wire}
use Rattle.gc_store.proofs.readers.Readers.of.Goals as goal

pub loop-read-preserved-in-Some : goal.loop-read-preserved-in-Some
loop-read-preserved-in-Some g c = link_wire _ c.gates-reads.ensures.lawful _ c.loop-read.read _ _
    (omega (arith, c.loop-read-test.true)) c.loop-read.invariant _ _ c.in-Some.ensures
    c.index.ensures

pub loop-read-preserved : goal.loop-read-preserved
loop-read-preserved g c = link_no_wire _ c.gates-reads.ensures.lawful _ c.loop-read.read _ _
    (omega (arith, c.loop-read-test.true)) c.loop-read.invariant c.in_default.ensures

pub returns : goal.returns
returns g c =
    let end : c.loop-read.read ≡ 0 = omega (arith, c.loop-read-test.false) in
    rw end at c.loop-read.invariant
