-- What a call reports.
use Rattle.halfgates_c.proofs.Names.{◌≡◌, ◌≢◌, ℕ, ℤ, pos, Result, IfOk, IfErr, OnErr, KeptFault, ReturnsCodeAndSize, IsReported, arith}
use Rattle.gc_kept.specs.Fault.{code_of}

-- The code and the number that are reported say what the outcome is.
pub reported : (outcome : Result ℕ KeptFault) (code : ℤ) (written : ℕ)
    → IfOk outcome (λ size. (code ≡ pos 0) × (written ≡ size))
    → IfErr outcome (λ fault. (code ≡ pos (code_of fault)) × IsReported written fault)
    → OnErr outcome (code ≢ pos 0)
    → (P : ℕ → Type 0) (Q : KeptFault → Type 0) → IfOk outcome P → IfErr outcome Q
    → ReturnsCodeAndSize code written P Q
reported outcome code written done fault some P Q so lacks = grind arith
