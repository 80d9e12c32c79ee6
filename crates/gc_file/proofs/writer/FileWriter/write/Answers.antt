use Rattle.gc_file.proofs.WriterNames.{refl, Proceeds-exit}
use Rattle.gc_file.proofs.writer.FileWriter.write.Goals as goal

pub returns-in_err-send-clause-bytes : goal.returns-in_err-send-clause-bytes
returns-in_err-send-clause-bytes g c =
    Proceeds-exit c.from_residual.result _ c.from_residual.ensures.1 refl
    c.in_err-send.ensures.bytes
