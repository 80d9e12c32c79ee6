-- What a code says.
use Rattle.std.specs.Prelude.{◌≡◌, ◌≢◌, ℕ, ℤ, pos}
use Rattle.gc_kept.specs.declared.fault.KeptFault.{KeptFault}
use Rattle.gc_kept.specs.declared.fault.KeptFault.TheVariants.{NeedsRoom}
use Rattle.gc_kept.specs.Fault.{code_of}

-- The code is that of a fault of which Q holds.
pub record HasCode (code : ℤ) (Q : KeptFault → Type 0) : Type 0 where
  pub fault : KeptFault
  pub number : code ≡ pos (code_of fault)
  pub holds : Q fault

-- The code is 0 and P holds, or it is that of a fault of which Q holds, and isn't 0.
pub record ReturnsCode (code : ℤ) (P : Type 0) (Q : KeptFault → Type 0) : Type 0 where
  pub done : code ≡ pos 0 → P
  pub fault : code ≢ pos 0 → HasCode code Q

-- The number that a call reports is the size that its fault has, if it has one.
abbrev pub IsReported : (written : ℕ) → KeptFault → Type 0
IsReported written (NeedsRoom size) = written ≡ size
IsReported written _ = Unit {0}

-- The same where a call reports how many bytes it wrote, of which P holds, or how many it needs room for.
pub record ReturnsCodeAndSize (code : ℤ) (written : ℕ) (P : ℕ → Type 0) (Q : KeptFault → Type 0)
    : Type 0 where
  pub done : code ≡ pos 0 → P written
  pub fault : code ≢ pos 0 → HasCode code (λ fault. Q fault × IsReported written fault)
