-- Pieces of bytes that are written one after another.
use Rattle.gc_kept.proofs.Names.{map_more, ◌≡◌, ℕ, ◌+◌, ◌*◌, ◌<◌, List, ◌++◌, Bool, length, take, get_or, slice_get, Some, refl, sym, append-nil, arith, ◌≤◌, drop, ◌-◌, map, set, flat_map, sum, length-map, get_or_default, drop_all, length-append, length-drop, take_more_set, bytes_of_label, RowPair, row_bytes, slice_get_within, get_or_from_slice_get, length-zip, length-bytes_of_label, decode, label_magic, number_bytes, length-flat_map, items_from, items_spelled, row_of, row_spelling, AreRows, sum_by_more_le, put_mid, bit_number, length-number_bytes}
use Rattle.gc_file.proofs.LabelBytesLemmas.{length-row_bytes}
use Rattle.gc_file.specs.LabelFile.{label_file}

-- There are 16 bytes for each label,
pub length_labels : (labels : List ℕ)
    → length (flat_map bytes_of_label labels) ≡ 16 * length labels
length_labels = length-flat_map bytes_of_label 16 length-bytes_of_label

-- and 32 for each row pair.
pub length_rows : (rows : List RowPair) → length (flat_map row_bytes rows) ≡ 32 * length rows
length_rows = length-flat_map row_bytes 32 length-row_bytes

-- Bytes of a whole number of row pairs are some.
pub rows_spelled : (bytes : List ℕ) (n : ℕ) → length bytes ≡ 32 * n
    → ((i : ℕ) → get_or bytes i 0 < 256) → (rows : List RowPair) × AreRows bytes rows
rows_spelled bytes n long small =
    let is = items_spelled row_spelling n bytes long
    (λ k d within. rw (← get_or_default bytes k 0 d within) (small k)) in
    (items_from 32 row_of n bytes, record { spelled = sym is.0; each = is.1 })

-- There is a bit for each label that is decoded.
pub length-decoded : (bits : List Bool) (labels : List ℕ) → length bits ≡ length labels
    → length (decode bits labels) ≡ length labels
length-decoded bits labels same = rw (length-map, length-zip) (omega (arith, same))

-- The wires of a value are some of all.
pub value-fits : (widths : List ℕ) (index width : ℕ) → slice_get widths index ≡ Some width
    → sum (take index widths) + width ≤ sum widths
value-fits widths index width at =
    rw (get_or_from_slice_get widths index width width at) at
    (sum_by_more_le (λ x. x) widths index width (slice_get_within widths index width at))

-- What is written from a place on, to the end.
pub put_rest : (n : ℕ) (buffer part : List ℕ) → n ≤ length buffer
    → put_mid n (length buffer - n) buffer part ≡ take n buffer ++ part
put_rest n buffer part within =
    rw (
      drop_all (length buffer - n) (drop n buffer) (omega (arith, length-drop n buffer)),
      append-nil part,
    ) refl

-- A label file is its header and its labels.
pub label_file-is : (index n : ℕ) (labels front : List ℕ) → n ≡ length labels
    → front ≡ label_magic ++ number_bytes index ++ number_bytes n
    → front ++ flat_map bytes_of_label labels
    ≡ label_file (record { index = index; labels = labels })
unfolding label_file
label_file-is index n labels front count is = rw (is, count) refl

-- The header has 16 bytes.
pub length_header : (index n : ℕ)
    → length (label_magic ++ number_bytes index ++ number_bytes n) ≡ 16
length_header index n =
    omega (
      arith,
      length-append (number_bytes index) (number_bytes n),
      length-number_bytes index,
      length-number_bytes n,
    )

-- One more bit is written.
pub bits_more : (bytes : List ℕ) (bits : List Bool) (i byte : ℕ) (bit : Bool) → i < length bytes
    → take i bytes ≡ map bit_number (take i bits) → slice_get bits i ≡ Some bit
    → byte ≡ bit_number bit
    → take (i + 1) (set bytes i byte) ≡ map bit_number (take (i + 1) bits)
bits_more bytes bits i byte bit within before at is =
    rw (
      take_more_set bytes i byte within,
      before,
      is,
      map_more bit_number bits i bit (slice_get_within bits i bit at),
      get_or_from_slice_get bits i bit bit at,
    ) refl
