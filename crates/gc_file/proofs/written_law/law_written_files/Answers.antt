use Rattle.gc_file.proofs.WrittenFiles.{are_files}
use Rattle.gc_file.proofs.written_law.law_written_files.Goals as goal

pub returns : goal.returns
returns c = are_files
