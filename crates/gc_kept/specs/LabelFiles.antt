-- Label files that follow one another.
use Rattle.std.specs.Prelude.{◌≡◌, ◌≢◌, ℕ, ◌+◌, List, [], ◌∷◌, ◌++◌, length, map, flat_map, take, sum, All}
use Rattle.gc_file.specs.declared.fault.FileFault.{FileFault}
use Rattle.gc_file.specs.declared.fault.FileFault.TheVariants as file
use Rattle.gc_file.specs.FileFault.{FirstLabelFault}
use Rattle.gc_file.specs.LabelFile.{LabelFileParts, IsLabelFile, label_file}
use Rattle.gc_kept.specs.declared.fault.KeptFault.{KeptFault}
use Rattle.gc_kept.specs.declared.fault.KeptFault.TheVariants.{File, Memory, WrongSize}

abbrev pub file_length : LabelFileParts → ℕ
file_length file = length (label_file file)

abbrev pub IsOwnFile : LabelFileParts → Type 0
IsOwnFile file = IsLabelFile (label_file file) file

-- The bytes are these label files, one after another, and these are the numbers of their bytes.
pub record AreJoinedFiles (bytes lengths : List ℕ) (files : List LabelFileParts) : Type 0 where
  pub spelled : bytes ≡ flat_map label_file files
  pub lengths_of : lengths ≡ map file_length files
  pub whole : All IsOwnFile files

-- After some label files the bytes of the next one have this first fault.
pub record HasFaultyFile (bytes lengths : List ℕ) (fault : FileFault) : Type 0 where
  pub files : List LabelFileParts
  pub piece : List ℕ
  pub others : List ℕ
  pub spelled : bytes ≡ flat_map label_file files ++ piece ++ others
  pub lengths_of : take (length files + 1) lengths ≡ map file_length files ++ length piece ∷ []
  pub whole : All IsOwnFile files
  pub first : FirstLabelFault piece fault

-- The fault of such bytes: the lengths don't add up to theirs, else the first fault of a file. Memory may be missing
-- instead.
abbrev pub HasJoinedFilesFault : List ℕ → List ℕ → KeptFault → Type 0
HasJoinedFilesFault bytes lengths WrongSize = length bytes ≢ sum lengths
HasJoinedFilesFault bytes lengths (File fault) =
    (length bytes ≡ sum lengths) × (fault ≢ file.Memory → HasFaultyFile bytes lengths fault)
HasJoinedFilesFault bytes lengths Memory = Unit {0}
HasJoinedFilesFault bytes lengths _ = ⊥
