use Rattle.gc_file.proofs.ReaderNames.{err_from_is_err_and, lasting}
use Rattle.gc_file.proofs.reader.read_garbled.Goals as goal

pub returns-in_err-feed : goal.returns-in_err-feed
returns-in_err-feed g c =
    let p = err_from_is_err_and c.from_residual.result c.from_residual.ensures.1 in
    let fed = rw c.new-reader.ensures at c.in_err-feed.ensures in
    rw (p.1, p.2) (λ other. lasting _ (fed.1 other))
