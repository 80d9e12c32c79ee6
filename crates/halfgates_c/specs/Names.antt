-- The names of codes, as `docs/FAULTS.md` and `include/halfgates.h` list them.
use Rattle.std.specs.Prelude.{◌≡◌, ◌≢◌, ◌⊎◌, ◌↔◌, ℕ, ℤ, Bool, pos, negsuc, List, ◌==◌, ◌&&◌, ◌||◌, ◌++◌, ◌-◌, codes, length, nat_le, replicate, if◌then◌else◌}
use Rattle.gc_netlist.specs.Names.{fault_name}
use Rattle.gc_job.specs.declared.fault.EvalFault.TheVariants.{BadWorkers}
use Rattle.gc_kept.specs.declared.fault.KeptFault.{KeptFault}
use Rattle.gc_kept.specs.declared.fault.KeptFault.TheVariants.{Evaluation}
use Rattle.gc_kept.specs.Fault.{code_of}

-- The numbers from `low` to `high`.
abbrev is_in : ℕ → ℕ → ℕ → Bool
is_in low high n = nat_le low n && nat_le n high

-- A call of the library returns this code for a fault.
abbrev pub is_code : ℕ → Bool
is_code n =
    is_in 1 13 n || n == 15 || n == 16 || n == 23 || is_in 30 36 n || is_in 40 46 n || n == 48
    || is_in 60 68 n

-- the name of a code; no code is negative
abbrev pub name_of_code : ℤ → List ℕ
name_of_code (pos n) =
    if n == 0 then codes "Ok" else if is_code n then fault_name n else codes "Unknown"
name_of_code (negsuc n) = codes "Unknown"

-- a name of up to 31 bytes, with zeros up to 32
abbrev pub padded : List ℕ → List ℕ
padded name = name ++ replicate (32 - length name) 0

-- Where the code is that of a fault, the text is the fault's name. No call here takes a number of workers, so the fault
-- of such a number has no name.
abbrev pub NamesFault : ℤ → List ℕ → Type 0
NamesFault code text = (fault : KeptFault) → fault ≢ Evaluation BadWorkers
    → code ≡ pos (code_of fault) → text ≡ padded (fault_name (code_of fault))

-- The flag is 1 where the code is that of a fault named Memory, and else 0.
pub record IsMemoryFlag (code flag : ℤ) : Type 0 where
  pub either : (flag ≡ pos 0) ⊎ (flag ≡ pos 1)
  pub memory : (flag ≡ pos 1) ↔ (name_of_code code ≡ codes "Memory")
