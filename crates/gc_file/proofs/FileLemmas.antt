-- Parts that are whole are a garbled file.
use Rattle.gc_file.proofs.Names.{◌≡◌, ℕ, ◌+◌, ◌<◌, List, ◌++◌, length, take, drop, map, flat_map, get_or, All, refl, ap, arith, range_with_len, take-add, length-map-range_with_len, sha256, bit_in, IsSpare, number_bytes, GarbledParts, magic, row_bytes, entry_bytes, body, garbled_file, entry_count, IsLabel, IsGarbledFile, row_count, output_count, IsHeaderInOrder, version_of_bytes, entry_size, take_all, length-take-le, length-drop}
use Rattle.gc_file.proofs.NumberLemmas.{number_bytes-u32_at}
use Rattle.gc_file.proofs.LabelBytesLemmas.{length-row_bytes, length-entry_bytes}
use Rattle.gc_file.proofs.PairLemmas.{length-pairs}
use Rattle.gc_file.proofs.PlaceLemmas.{IsDecoded, begins}
use Rattle.gc_file.proofs.PackLemmas.{packed-unpacked}

-- A header, in its parts.
pub header_parts : (h digest : List ℕ) → length h ≡ 48 → IsHeaderInOrder (version_of_bytes h) h
    → ((i : ℕ) → get_or h i 0 < 256)
    → digest ≡ take 32 (drop 8 h)
    → magic (version_of_bytes h) ++ digest ++ number_bytes (row_count h)
    ++ number_bytes (output_count h) ≡ h
header_parts h digest whole in_order small is =
    rw (
      is,
      ← begins (version_of_bytes h) h (omega arith) in_order.begun,
      number_bytes-u32_at 40 h (omega arith) small,
      number_bytes-u32_at 44 h (omega arith) small,
      ← take-add 8 32 h,
      ← take-add 40 4 h,
      ← take-add 44 4 h,
    )
    (take_all 48 h (omega arith))

module _ (h r d e t : List ℕ) (p : GarbledParts) (decoded : IsDecoded h r d)
    (in_order : IsHeaderInOrder (version_of_bytes h) h) (entries_full : length e ≡ entry_size h)
    (none : IsSpare (output_count h) d → ⊥) (right : t ≡ sha256 (h ++ r ++ d ++ e))
    (small_header : (i : ℕ) → get_or h i 0 < 256) (small_decode : (i : ℕ) → get_or d i 0 < 256)
    (version_is : p.version ≡ version_of_bytes h) (digest_is : p.digest ≡ take 32 (drop 8 h))
    (rows_are : flat_map row_bytes p.rows ≡ r) (entries_are : flat_map entry_bytes p.entries ≡ e)
    (bits_are : p.decode_bits ≡ map (bit_in d) (range_with_len 0 (output_count h))) where
  row_number : length p.rows ≡ row_count h
  row_number = omega (arith, length-pairs row_bytes length-row_bytes p.rows, ap length rows_are)

  bit_number : length p.decode_bits ≡ output_count h
  bit_number = rw (bits_are, length-map-range_with_len) refl

  entry_number : length p.entries ≡ entry_count (version_of_bytes h) (output_count h)
  entry_number =
      omega (arith, length-pairs entry_bytes length-entry_bytes p.entries, ap length entries_are)

  body_is : body p ≡ h ++ r ++ d ++ e
  body_is = rw (
    row_number,
    bit_number,
    version_is,
    rows_are,
    bits_are,
    packed-unpacked d (output_count h) decoded.decode small_decode none,
    entries_are,
    header_parts h p.digest decoded.header in_order small_header digest_is,
  ) refl

  pub file_is : All (λ row. IsLabel row.generator × IsLabel row.evaluator) p.rows
      → All (λ pair. IsLabel pair.entry_zero × IsLabel pair.entry_one) p.entries
      → IsGarbledFile (h ++ r ++ d ++ e ++ t) p
  unfolding garbled_file
  file_is row_labels entry_labels = record {
    few_rows = grind (arith, row_number);
    few_outputs = grind (arith, bit_number);
    digest = rw digest_is (length-take-le 32 (drop 8 h) (omega (arith, length-drop 8 h)));
    rows = row_labels;
    entries = entry_labels;
    entry_pairs = rw (version_is, bit_number) entry_number;
    spelled = rw (body_is, ← right) refl;
  }
