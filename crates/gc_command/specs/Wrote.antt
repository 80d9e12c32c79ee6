-- A file that a command writes, and what the command prints of it.
use Rattle.std.specs.Prelude.{◌≡◌, ℕ, List, [], ◌∷◌, ◌++◌, length, Option, Some, codes}
use Rattle.std.specs.Fmt.{decimal}
use Rattle.gc_disk.specs.Files.{FileBytes}
use Rattle.gc_command.specs.declared.fault.Fault.{Fault}
use Rattle.gc_command.specs.declared.fault.Fault.TheVariants.{CannotWrite, Memory}

-- The line that states a number of bytes.
abbrev pub wrote_line : ℕ → List ℕ
wrote_line count = codes "wrote " ++ decimal count ++ 10 ∷ []

-- The file was written: it is what is held, and the line states its number of bytes.
pub record HasWritten (file : List ℕ) (held : Option (List ℕ)) (lines : List ℕ) : Type 0 where
  pub holds : held ≡ Some file
  pub printed : lines ≡ wrote_line (length file)

-- The fault of a file that can't be written, or that there is no memory for the result.
abbrev pub IsUnwritten : Fault → Type 0
IsUnwritten CannotWrite = Unit {0}
IsUnwritten Memory = Unit {0}
IsUnwritten _ = ⊥

-- Each file is as it was.
abbrev pub KeepsFiles : FileBytes → FileBytes → Type 0
KeepsFiles old new = (name : List ℕ) → new name ≡ old name
