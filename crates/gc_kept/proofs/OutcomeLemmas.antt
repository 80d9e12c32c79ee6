-- The fault that a `?` returns.
use Rattle.std.proofs.Common.{◌≡◌, Result, Ok, Err, IfErr, IsErrAnd}

pub if_err : {T E : Type 0} {fault : E} (r : Result T E) (P : E → Type 0)
    → IsErrAnd r (λ e. e ≡ fault) → P fault → IfErr r P
if_err (Ok x) P is holds = tt
if_err (Err e) P is holds = rw is holds
