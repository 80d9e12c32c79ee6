-- The bytes of a pair of labels, for a pair of any kind whose labels are told.
use Rattle.std.specs.Prelude.{◌++◌, ℕ, List}
use Rattle.gc_label.specs.Label.{bytes_of_label}
use Rattle.gc_file.specs.GarbledFile.{IsLabel}

module _ {P : Type 0} (labels : P → ℕ × ℕ) where
  -- the 16 bytes of the first label, and then those of the second
  abbrev pub bytes_by : P → List ℕ
  bytes_by pair = bytes_of_label (labels pair).0 ++ bytes_of_label (labels pair).1

  -- Each of the two is the number of 16 bytes.
  abbrev pub IsLabelPair : P → Type 0
  IsLabelPair pair = IsLabel (labels pair).0 × IsLabel (labels pair).1
