use Rattle.gc_audit.proofs.AuditedFileLemmas.{audited_files}
use Rattle.gc_audit.proofs.laws.law_audited_files.Goals as goal

pub returns : goal.returns
returns c = audited_files
