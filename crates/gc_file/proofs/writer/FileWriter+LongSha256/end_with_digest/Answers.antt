use Rattle.gc_file.proofs.WriterNames.{sha256, Ends-exit, Ends-digest}
use Rattle.gc_file.proofs.writer.FileWriter+LongSha256.end_with_digest.Goals as goal

pub returns-in_err-send-clause-bytes : goal.returns-in_err-send-clause-bytes
returns-in_err-send-clause-bytes g c =
    Ends-exit c.from_residual.result sha256 c.from_residual.ensures.1 c.in_err-send.ensures.bytes

pub returns-clause-bytes : goal.returns-clause-bytes
returns-clause-bytes g c =
    Ends-digest (rw c.replace.ensures.value at c.finalize-trailer.ensures)
    c.in_ok-send.ensures.empty c.in_ok-send.ensures.bytes c.put_after.ensures.bytes
