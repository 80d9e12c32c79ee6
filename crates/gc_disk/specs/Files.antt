-- What calls on files return, and which files have failed.
use Rattle.std.specs.Prelude.{◌≡◌, ℕ, List, [], ◌∷◌, ◌++◌, replicate, Option, Some, None, Result, Ok, Err}
use Rattle.gc_disk.specs.declared.files.FileError.{FileError}
use Rattle.gc_disk.specs.declared.files.FileError.TheVariants.{CannotRead, CannotWrite, Memory}

-- The bytes of files by name, where they are known.
abbrev pub FileBytes : Type 0
FileBytes = List ℕ → Option (List ℕ)

-- Where the file's bytes are known, these are they.
abbrev pub GivesFile : Option (List ℕ) → List ℕ → Type 0
GivesFile None bytes = Unit {0}
GivesFile (Some known) bytes = bytes ≡ known

-- The files that have failed: for each call that failed the name of its file, in order.
abbrev pub FailedFiles : Type 0
FailedFiles = List (List ℕ)

-- The file of this name has failed since, once or more often, and no other file has.
abbrev pub HasFailed : FailedFiles → FailedFiles → List ℕ → Type 0
HasFailed old new name = (more : ℕ) × (new ≡ old ++ name ∷ replicate more name)

-- A call that could not read the file of this name has added it to those that failed, and any other has added none.
abbrev pub CountsRead : {T : Type 0} → Result T FileError → List ℕ → FailedFiles → FailedFiles
    → Type 0
CountsRead (Ok x) name old new = new ≡ old
CountsRead (Err Memory) name old new = new ≡ old
CountsRead (Err CannotRead) name old new = new ≡ old ++ name ∷ []
CountsRead (Err CannotWrite) name old new = ⊥

-- A call that could not write the file of this name has added it to those that failed, and any other has added none.
abbrev pub CountsWrite : {T : Type 0} → Result T FileError → List ℕ → FailedFiles → FailedFiles
    → Type 0
CountsWrite (Ok x) name old new = new ≡ old
CountsWrite (Err Memory) name old new = new ≡ old
CountsWrite (Err CannotRead) name old new = ⊥
CountsWrite (Err CannotWrite) name old new = new ≡ old ++ name ∷ []
