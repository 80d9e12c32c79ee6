-- A garbled file that is taken from a source.
use Rattle.std.specs.Prelude.{◌≡◌, ◌≢◌, ℕ, ◌⊎◌, ◌+◌, List, ◌++◌, length, Option, Result, Ok, Err, codes}
use Rattle.std.specs.Fmt.{decimal}
use Rattle.std.specs.Io.KnownBytes.{Consumes, IsAtEnd}
use Rattle.gc_netlist.specs.Names.{fault_name}
use Rattle.gc_file.specs.declared.fault.FileFault.TheVariants.{Memory}
use Rattle.gc_file.specs.declared.take.TakeFault.{TakeFault}
use Rattle.gc_file.specs.declared.take.TakeFault.TheVariants.{File, ReadFault}
use Rattle.gc_file.specs.Fault as faults
use Rattle.gc_file.specs.GarbledFile.{GarbledParts, IsGarbledFile}
use Rattle.gc_file.specs.FileFault.{IsSound, LastingFault, FirstGarbledFault}
use Rattle.gc_file.specs.Reading.{Fed}
use Rattle.gc_file.specs.Counted.{saturated_count}

abbrev pub code_of : TakeFault → ℕ
code_of (File fault) = faults.code_of fault
code_of (ReadFault got) = 38

-- the name and, of a source that failed, how many bytes it had given
abbrev pub fault_text : TakeFault → List ℕ
fault_text (File fault) = fault_name (faults.code_of fault)
fault_text (ReadFault got) = codes "ReadFault after " ++ decimal got ++ codes " bytes"

-- What is returned of the bytes that a source gave, with the bytes that it has left. A fault of the file is one that no
-- further bytes can mend, or none are left; a source that failed gave `got` bytes, which are in order as far as they
-- go.
abbrev pub IsAnswer : List ℕ → Option (List ℕ) → Result GarbledParts TakeFault → Type 0
IsAnswer given left (Ok parts) = IsGarbledFile given parts × IsAtEnd left
IsAnswer given left (Err (File fault)) = fault ≢ Memory
    → LastingFault given fault ⊎ (FirstGarbledFault given fault × IsAtEnd left)
IsAnswer given left (Err (ReadFault got)) = IsSound given × (got ≡ saturated_count (length given))

-- A garbled file is taken from a source: which bytes the source gave, and what is returned of them.
pub record IsTaken (old new : Option (List ℕ))
    (result : Result GarbledParts TakeFault) : Type 0 where
  pub given : List ℕ
  pub consumed : Consumes old new given
  pub answer : IsAnswer given new result

-- What is returned of all the bytes that a source had, where they are known: what is returned where they are read,
-- unless the source failed.
abbrev pub IsAnswerOfAll : List ℕ → Result GarbledParts TakeFault → Type 0
IsAnswerOfAll bytes (Ok parts) = IsGarbledFile bytes parts
IsAnswerOfAll bytes (Err (File fault)) = fault ≢ Memory → FirstGarbledFault bytes fault
IsAnswerOfAll bytes (Err (ReadFault got)) = Unit {0}

-- The source failed once more where that is returned, and otherwise not.
abbrev pub CountsReadFault : {T : Type 0} → Result T TakeFault → ℕ → ℕ → Type 0
CountsReadFault (Ok parts) old new = new ≡ old
CountsReadFault (Err (File fault)) old new = new ≡ old
CountsReadFault (Err (ReadFault got)) old new = new ≡ old + 1

-- A file is being taken: the reader was fed what the source gave.
pub record IsTaking (reader : Fed) (old now : Option (List ℕ)) (got : ℕ) : Type 0 where
  pub given : List ℕ
  pub fed : reader ≡ Ok given
  pub consumed : Consumes old now given
  pub sound : IsSound given
  pub count : got ≡ saturated_count (length given)
