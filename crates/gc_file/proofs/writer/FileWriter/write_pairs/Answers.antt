use Rattle.gc_file.proofs.WriterNames.{entry_bytes, flat_map-step, flat_map-rest, Wrote-more, Wrote-exit}
use Rattle.gc_file.proofs.writer.FileWriter.write_pairs.Goals as goal

pub returns-in_err-write-clause-bytes : goal.returns-in_err-write-clause-bytes
returns-in_err-write-clause-bytes g c =
    Wrote-exit c.from_residual.result _ c.from_residual.ensures.1
    (flat_map-step entry_bytes _ c.loop-pair-test.true c.pair-item.is c.pair_bytes.ensures)
    (flat_map-rest entry_bytes c.args.pairs.now _) c.loop-pair.invariant
    c.in_err-write.ensures.bytes

pub loop-pair-preserved : goal.loop-pair-preserved
loop-pair-preserved g c =
    Wrote-more
    (flat_map-step entry_bytes _ c.loop-pair-test.true c.pair-item.is c.pair_bytes.ensures)
    c.loop-pair.invariant c.in_ok-write.ensures
