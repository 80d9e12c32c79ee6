use Rattle.gc_file.proofs.WriterNames.{Ends-sent}
use Rattle.gc_file.proofs.writer.FileWriter.end.Goals as goal

pub returns-clause-bytes : goal.returns-clause-bytes
returns-clause-bytes g c = Ends-sent c.in_ok-send.ensures.bytes c.in_ok-send.ensures.empty
