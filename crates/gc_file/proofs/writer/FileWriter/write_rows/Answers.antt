use Rattle.gc_file.proofs.WriterNames.{row_bytes, flat_map-step, flat_map-rest, Wrote-more, Wrote-exit}
use Rattle.gc_file.proofs.writer.FileWriter.write_rows.Goals as goal

pub returns-in_err-write-clause-bytes : goal.returns-in_err-write-clause-bytes
returns-in_err-write-clause-bytes g c =
    Wrote-exit c.from_residual.result _ c.from_residual.ensures.1
    (flat_map-step row_bytes _ c.loop-row-test.true c.row-item.is c.pair_bytes.ensures)
    (flat_map-rest row_bytes c.args.rows.now _) c.loop-row.invariant c.in_err-write.ensures.bytes

pub loop-row-preserved : goal.loop-row-preserved
loop-row-preserved g c =
    Wrote-more (flat_map-step row_bytes _ c.loop-row-test.true c.row-item.is c.pair_bytes.ensures)
    c.loop-row.invariant c.in_ok-write.ensures
