-- How many bytes a pair of labels has.
use Rattle.gc_file.proofs.Names.{◌≡◌, ℕ, length, length-append, length-bytes_of_label, RowPair, EntryPair, row_bytes, entry_bytes, bytes_by}

pub length-bytes_by : {P : Type 0} (labels : P → ℕ × ℕ) (pair : P)
    → length (bytes_by labels pair) ≡ 32
length-bytes_by labels pair = simp (length-append, length-bytes_of_label)

pub length-row_bytes : (row : RowPair) → length (row_bytes row) ≡ 32
length-row_bytes row = simp (length-append, length-bytes_of_label)

pub length-entry_bytes : (pair : EntryPair) → length (entry_bytes pair) ≡ 32
length-entry_bytes pair = simp (length-append, length-bytes_of_label)
