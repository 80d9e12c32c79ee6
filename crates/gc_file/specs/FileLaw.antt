-- The laws of the two files.
use Rattle.std.specs.Prelude.{◌≡◌, ◌≢◌, ℕ, ◌<◌, ◌⊎◌, List, ◌++◌, All}
use Rattle.gc_file.specs.declared.fault.FileFault.{FileFault}
use Rattle.gc_file.specs.declared.fault.FileFault.TheVariants.{Truncated}
use Rattle.gc_file.specs.GarbledFile.{GarbledParts, IsGarbledFile}
use Rattle.gc_file.specs.LabelFile.{LabelFileParts, IsLabelFile}
use Rattle.gc_file.specs.FileFault.{LastingFault, FirstGarbledFault, FirstLabelFault}

-- Each of these is a byte.
abbrev pub AreBytes : List ℕ → Type 0
AreBytes bytes = All (λ byte. byte < 256) bytes

-- Bytes are one garbled file or have one first fault, and not both.
pub record GarbledFileLaw (bytes : List ℕ) : Type 0 where
  pub either : ((p : GarbledParts) × IsGarbledFile bytes p)
      ⊎ ((e : FileFault) × FirstGarbledFault bytes e)
  pub not_both : (p : GarbledParts) (e : FileFault) → IsGarbledFile bytes p
      → FirstGarbledFault bytes e → ⊥
  pub one_file : (p q : GarbledParts) → IsGarbledFile bytes p → IsGarbledFile bytes q → p ≡ q
  pub one_fault : (e f : FileFault) → FirstGarbledFault bytes e → FirstGarbledFault bytes f → e ≡ f
  -- A lasting fault is that of all longer bytes.
  pub lasts : (e : FileFault) (more : List ℕ) → LastingFault bytes e
      → LastingFault (bytes ++ more) e

-- Bytes are one label file or have one first fault, and not both.
pub record LabelFileLaw (bytes : List ℕ) : Type 0 where
  pub either : ((p : LabelFileParts) × IsLabelFile bytes p)
      ⊎ ((e : FileFault) × FirstLabelFault bytes e)
  pub not_both : (p : LabelFileParts) (e : FileFault) → IsLabelFile bytes p
      → FirstLabelFault bytes e → ⊥
  pub one_file : (p q : LabelFileParts) → IsLabelFile bytes p → IsLabelFile bytes q → p ≡ q
  pub one_fault : (e f : FileFault) → FirstLabelFault bytes e → FirstLabelFault bytes f → e ≡ f
  -- A fault other than Truncated is that of all longer bytes.
  pub lasts : (e : FileFault) (more : List ℕ) → e ≢ Truncated → FirstLabelFault bytes e
      → FirstLabelFault (bytes ++ more) e
