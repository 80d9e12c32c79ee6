use Rattle.gc_job.proofs.HonestFiles.{honest-files}
use Rattle.gc_job.proofs.laws.law_honest_files.Goals as goal

pub returns : goal.returns
returns c = honest-files
