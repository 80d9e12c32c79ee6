use Rattle.gc_file.proofs.ReaderNames.{err_from_is_err_and, lasting}
use Rattle.gc_file.proofs.reader.read_garbled_by_digest.Goals as goal

pub returns-in_err-state : goal.returns-in_err-state
returns-in_err-state g c =
    let p = err_from_is_err_and c.from_residual.result c.from_residual.ensures.1 in
    let failed = rw c.new.ensures at c.in_err-state.ensures.err in
    rw (p.1, p.2) (λ other. lasting _ (failed other))
