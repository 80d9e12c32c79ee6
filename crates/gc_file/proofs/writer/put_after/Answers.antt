use Rattle.gc_file.proofs.WriterNames.{IsAfter-stopped}
use Rattle.gc_file.proofs.writer.put_after.Goals as goal

pub returns-in-Err-clause-bytes : goal.returns-in-Err-clause-bytes
returns-in-Err-clause-bytes g c =
    IsAfter-stopped c.args.sent c.args.piece.now c.in-Err.taken.sent c.saturating_add-in-Err.result
    c.in-Err.ensures.bytes c.in-Err.ensures.sent c.saturating_add-in-Err.ensures
