-- The parts of a garbled file are determined by its bytes.
use Rattle.gc_file.proofs.Names.{◌≡◌, ℕ, List, [], ◌++◌, length, take, drop, map, flat_map, refl, sym, ap, ◌∙◌, append_assoc, length-append, arith, append-nil, take_at, drop_at, number_bytes, packed, bit_in, GarbledParts, magic, row_bytes, entry_bytes, header, body, garbled_file, entry_count, IsGarbledFile, row_count, output_count, trailer_end, IsInOrder, FirstGarbledFault, FileFault, version_of_bytes, row_size, decode_size, entry_size, range_with_len, sha256, length-sha256}
use Rattle.gc_file.proofs.LabelBytesLemmas.{length-row_bytes, length-entry_bytes}
use Rattle.gc_file.proofs.NumberLemmas.{length-number_bytes, u32_at-number_bytes}
use Rattle.gc_file.proofs.PairLemmas.{length-pairs}
use Rattle.gc_file.proofs.StepLemmas.{version_of_bytes-begun}
use Rattle.gc_file.proofs.PackLemmas.{length-packed, packed-not_spare, unpacked-packed}
use Rattle.gc_file.proofs.PlaceLemmas.{IsDecoded, parts, nested, length-magic, begins, begun, parts_in_order, whole_is}
use Rattle.gc_file.proofs.ItemLemmas.{items_from, items_back, row_of, row_spelling, entry_of, entry_spelling}
use Rattle.gc_file.proofs.FaultLemmas.{one_version, no_lasting}

-- What the bytes of the parts of a file hold: header, rows, decode bits and entries.
abbrev pub parts_from : List ℕ → List ℕ → List ℕ → List ℕ → GarbledParts
parts_from h r d e = record {
  version = version_of_bytes h;
  digest = take 32 (drop 8 h);
  rows = items_from 32 row_of (row_count h) r;
  decode_bits = map (bit_in d) (range_with_len 0 (output_count h));
  entries = items_from 32 entry_of (entry_count (version_of_bytes h) (output_count h)) e;
}

-- The header of a file, and the bytes after each part.
abbrev pub header_in : List ℕ → List ℕ
header_in b = take 48 b

abbrev pub after_rows : List ℕ → List ℕ
after_rows b = drop (row_size (header_in b)) (drop 48 b)

abbrev pub after_decode : List ℕ → List ℕ
after_decode b = drop (decode_size (header_in b)) (after_rows b)

-- What the bytes of a file hold.
unfoldable pub parts_in : List ℕ → GarbledParts
parts_in b =
    parts_from (header_in b) (take (row_size (header_in b)) (drop 48 b))
    (take (decode_size (header_in b)) (after_rows b))
    (take (entry_size (header_in b)) (after_decode b))

cut_parts : (h r d e t : List ℕ) → IsDecoded h r d → length e ≡ entry_size h
    → parts_in (parts h r d e t) ≡ parts_from h r d e
unfolding parts_in
cut_parts h r d e t decoded entries_full =
    rw (
      nested h r d e t,
      take_at h _ 48 decoded.header,
      drop_at h _ 48 decoded.header,
      take_at r _ (row_size h) decoded.rows,
      drop_at r _ (row_size h) decoded.rows,
      take_at d _ (decode_size h) decoded.decode,
      drop_at d _ (decode_size h) decoded.decode,
      take_at e _ (entry_size h) entries_full,
    ) refl

module _ (b : List ℕ) (p : GarbledParts) (file : IsGarbledFile b p) where
  header_magic : take 8 (header p) ≡ magic p.version
  header_magic = rw (append_assoc, append_assoc)
      (take_at (magic p.version) _ 8 (length-magic p.version))

  header_version : version_of_bytes (header p) ≡ p.version
  header_version = version_of_bytes-begun p.version (header p) header_magic

  header_digest : take 32 (drop 8 (header p)) ≡ p.digest
  header_digest =
      rw (append_assoc, append_assoc, drop_at (magic p.version) _ 8 (length-magic p.version))
      (take_at p.digest _ 32 file.digest)

  header_rows : row_count (header p) ≡ length p.rows
  header_rows = rw (append_assoc (magic p.version ++ p.digest) (number_bytes (length p.rows)))
      (u32_at-number_bytes 40 (length p.rows) (magic p.version ++ p.digest) _
      (simp (length-append, length-magic, file.digest)) (omega (arith, file.few_rows)))

  header_outputs : output_count (header p) ≡ length p.decode_bits
  header_outputs = simp append-nil at (u32_at-number_bytes 44 (length p.decode_bits)
      (magic p.version ++ p.digest ++ number_bytes (length p.rows)) []
      (simp (length-append, length-magic, length-number_bytes, file.digest))
      (omega (arith, file.few_outputs)))

  decoded : IsDecoded (header p) (flat_map row_bytes p.rows) (packed p.decode_bits)
  decoded = record {
    header = omega (arith, length-append {A = ℕ}, length-magic, length-number_bytes, file.digest);
    rows = rw header_rows (length-pairs row_bytes length-row_bytes p.rows);
    decode = rw header_outputs (length-packed p.decode_bits);
  }

  entries_full : length (flat_map entry_bytes p.entries) ≡ entry_size (header p)
  entries_full = rw (header_version, header_outputs, ← file.entry_pairs)
      (length-pairs entry_bytes length-entry_bytes p.entries)

  file_parts : parts_in b ≡ p
  unfolding garbled_file
  file_parts =
      ap parts_in file.spelled
      ∙ cut_parts (header p) _ _ _ (sha256 (body p)) decoded entries_full
      ∙ rw (
        header_version,
        header_digest,
        header_rows,
        header_outputs,
        ← file.entry_pairs,
        items_back row_spelling p.rows file.rows,
        items_back entry_spelling p.entries file.entries,
        unpacked-packed p.decode_bits,
      ) refl

  -- A file is in order, and whole.
  file_in_order : IsInOrder (version_of_bytes (header p)) b
  unfolding garbled_file
  file_in_order = rw file.spelled (parts_in_order (header p) (flat_map row_bytes p.rows)
      (packed p.decode_bits) (flat_map entry_bytes p.entries) (sha256 (body p)) decoded.header
      (grind (arith, decoded, header_version, header_rows, header_outputs, begun, header_magic))
      (search (arith, decoded, entries_full, length-sha256 (body p)))
      (λ full spare. packed-not_spare p.decode_bits (rw header_outputs at spare)) (λ full. refl))

  file_whole : length b ≡ trailer_end (version_of_bytes (header p)) b
  unfolding garbled_file
  file_whole = rw file.spelled (whole_is (header p) (flat_map row_bytes p.rows)
      (packed p.decode_bits) (flat_map entry_bytes p.entries) (sha256 (body p)) decoded
      entries_full (length-sha256 (body p)))

-- A file has no fault.
pub file_not_fault : (b : List ℕ) (p : GarbledParts) (e : FileFault) → IsGarbledFile b p
    → FirstGarbledFault b e → ⊥
file_not_fault b p e file fault =
    grind (arith, file_in_order b p file, file_whole b p file, no_lasting, one_version, begins)

pub one_file : (b : List ℕ) (p q : GarbledParts) → IsGarbledFile b p → IsGarbledFile b q → p ≡ q
one_file b p q fp fq = sym (file_parts b p fp) ∙ file_parts b q fq
