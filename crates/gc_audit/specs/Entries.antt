-- Which entry of a file is the first that differs from a garbling's.
use Rattle.std.specs.Prelude.{◌≡◌, ◌≢◌, ℕ, Bool, true, false, List, slice_index_or}
use Rattle.gc_file.specs.declared.parts.EntryPair.{EntryPair}
use Rattle.gc_audit.specs.declared.entries.EntryDifference.{EntryDifference}
use Rattle.gc_audit.specs.Difference.{DifferFirstAt}

-- The entry pair of an output, or zeros where there is none.
abbrev pub pair_at : List EntryPair → ℕ → EntryPair
pair_at entries i = slice_index_or entries i (record { entry_zero = 0; entry_one = 0 })

-- The entry pair of entries 0 and 1.
abbrev pub named : ℕ × ℕ → EntryPair
named entries = record { entry_zero = entries.0; entry_one = entries.1 }

-- This colour is the first, 0 before 1, whose entries in two pairs differ.
abbrev pub DifferFirstIn : EntryPair → EntryPair → Bool → Type 0
DifferFirstIn p q false = p.entry_zero ≢ q.entry_zero
DifferFirstIn p q true = (p.entry_zero ≡ q.entry_zero) × (p.entry_one ≢ q.entry_one)

-- The first entry in the file that is not the garbling's: its output, and its colour.
pub record IsEntryDifference (filed garbled : List EntryPair) (d : EntryDifference) : Type 0 where
  pub first : DifferFirstAt filed garbled d.output
  pub colour : DifferFirstIn (pair_at filed d.output) (pair_at garbled d.output) d.colour
