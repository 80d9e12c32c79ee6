-- Where the parts of a garbled file are, and what is wrong with them.
use Rattle.gc_file.proofs.Names.{◌≡◌, ℕ, ◌+◌, ◌-◌, ◌%◌, ◌<◌, ◌≤◌, List, ◌++◌, length, take, slice_index, refl, sym, ◌∙◌, append_assoc, length-append, arith, LongSha256, sha256, SpareBits, BadTrailer, Trailing, Version, One, Two, IsSpare, magic, MatchesMagic, row_count, output_count, decode_end, entries_end, trailer_end, IsTrailerRight, HasHeader, HasSpareBit, HasDecodeBits, LastingFault, spare_bits, bad_trailer, trailing, IsHeaderInOrder, IsInOrder, version_of_bytes, row_size, decode_size, entry_size, IsFilled, IsBody, take-append-le, take_at, drop_at, take_all, get_or-append-add, get_or_append_left}
use Rattle.gc_file.proofs.NumberLemmas.{u32_at-append}

pub length-magic : (v : Version) → length (magic v) ≡ 8
length-magic One = refl
length-magic Two = refl

-- A whole header begins with the whole magic.
pub begins : (v : Version) (bytes : List ℕ) → 8 ≤ length bytes → MatchesMagic (magic v) bytes
    → take 8 bytes ≡ magic v
begins v bytes long begun =
    begun ∙ take_all (length bytes) (magic v) (omega (arith, length-magic v))

pub begun : (v : Version) (bytes : List ℕ) → 8 ≤ length bytes → take 8 bytes ≡ magic v
    → MatchesMagic (magic v) bytes
begun v bytes long is = is ∙ sym (take_all (length bytes) (magic v) (omega (arith, length-magic v)))

-- The header is whole, and the rows and the decode bits are full.
pub record IsDecoded (h r d : List ℕ) : Type 0 where
  pub header : length h ≡ 48
  pub rows : length r ≡ row_size h
  pub decode : length d ≡ decode_size h

-- The parts of a file, and what is behind them.
module _ (h r d e x : List ℕ) where
  abbrev pub parts : List ℕ
  parts = h ++ r ++ d ++ e ++ x

  abbrev pub version : Version
  version = version_of_bytes h

  pub nested : parts ≡ h ++ (r ++ (d ++ (e ++ x)))
  nested = simp append_assoc

  module _ (whole : length h ≡ 48) where
    pub rows_is : row_count parts ≡ row_count h
    rows_is = rw nested (u32_at-append 40 h (r ++ (d ++ (e ++ x))) (omega arith))

    pub outputs_is : output_count parts ≡ output_count h
    outputs_is = rw nested (u32_at-append 44 h (r ++ (d ++ (e ++ x))) (omega arith))

    decode_end_is : decode_end parts ≡ 48 + row_size h + decode_size h
    decode_end_is = rw (rows_is, outputs_is) refl

    pub entries_end_is : entries_end version parts ≡ 48 + row_size h + decode_size h + entry_size h
    entries_end_is = rw (rows_is, outputs_is) refl

    pub length_is : length parts ≡ 48 + length r + length d + length e + length x
    length_is = simp (length-append, whole)

    has_header : IsHeaderInOrder version h → HasHeader version parts
    has_header in_order =
        grind (
          arith,
          begins version h,
          nested,
          take-append-le 8 h (r ++ (d ++ (e ++ x))),
          length_is,
          rows_is,
          outputs_is,
        )

  module _ (decoded : IsDecoded h r d) where
    last_is : 0 < output_count h % 8
        → slice_index parts (decode_end parts - 1) ≡ slice_index d (length d - 1)
    last_is part =
        let place : decode_end parts - 1 ≡ length h + (length r + (length d - 1)) =
        omega (arith, decode_end_is decoded.header) in
        rw (
          place,
          nested,
          get_or-append-add h (r ++ (d ++ (e ++ x))),
          get_or-append-add r (d ++ (e ++ x)),
        ) (get_or_append_left d (e ++ x) 0 (length d - 1) (omega arith))

    pub spare : IsSpare (output_count h) d → HasSpareBit parts
    spare is = grind (arith, outputs_is, last_is)

    is_spare : HasSpareBit parts → IsSpare (output_count h) d
    is_spare has = grind (arith, outputs_is, last_is)

    pub spare_fault : IsHeaderInOrder version h → IsSpare (output_count h) d
        → LastingFault parts SpareBits
    spare_fault in_order is =
        spare_bits version (has_header decoded.header in_order)
        (omega (arith, decode_end_is decoded.header, length_is decoded.header)) (spare is)

    -- where the entries are full
    module _ (entries_full : length e ≡ entry_size h) where
      pub whole_is : length x ≡ 32 → length parts ≡ trailer_end version parts
      whole_is trailer =
          omega (arith, entries_end_is decoded.header, length_is decoded.header)

      right_same : IsTrailerRight version parts ≡ (take 32 x ≡ sha256 (h ++ r ++ d ++ e))
      right_same =
          let at : length (h ++ r ++ d ++ e) ≡ entries_end version parts =
          simp length-append (omega (arith, entries_end_is decoded.header)) in
          rw (drop_at (h ++ r ++ d ++ e) x _ at, take_at (h ++ r ++ d ++ e) x _ at) refl

      pub is_right : IsTrailerRight version parts → take 32 x ≡ sha256 (h ++ r ++ d ++ e)
      is_right is = rw right_same at is

      module _ (in_order : IsHeaderInOrder version h) (none : IsSpare (output_count h) d → ⊥) where
        has_decode_bits : HasDecodeBits version parts
        has_decode_bits = grind (arith, has_header, decode_end_is, length_is, is_spare)

        pub bad_trailer_fault : 32 ≤ length x → (take 32 x ≡ sha256 (h ++ r ++ d ++ e) → ⊥)
            → LastingFault parts BadTrailer
        bad_trailer_fault reaches wrong =
            bad_trailer version has_decode_bits
            (omega (arith, entries_end_is decoded.header, length_is decoded.header))
            (λ is. wrong (is_right is))

        pub more_fault : 32 < length x → take 32 x ≡ sha256 (h ++ r ++ d ++ e)
            → LastingFault parts Trailing
        more_fault more right =
            trailing version has_decode_bits
            (omega (arith, entries_end_is decoded.header, length_is decoded.header))
            (rw right_same right)

-- The parts as far as they have come are in order.
pub parts_in_order : (h r d e t : List ℕ) → length h ≡ 48 → IsHeaderInOrder (version_of_bytes h) h
    → IsFilled (row_size h) (decode_size h) (entry_size h) r d e t
    → (length d ≡ decode_size h → IsSpare (output_count h) d → ⊥)
    → (length t ≡ 32 → t ≡ sha256 (h ++ r ++ d ++ e))
    → IsInOrder (version_of_bytes h) (h ++ r ++ d ++ e ++ t)
parts_in_order h r d e t whole in_order f none right =
    let decode_end = decode_end_is h r d e t whole in
    let ends = entries_end_is h r d e t whole in
    let long = length_is h r d e t whole in
    let header = has_header h r d e t whole in_order in
    record {
      header = grind (arith, begun (version_of_bytes h) (h ++ r ++ d ++ e ++ t));
      no_spare_bit = λ reaches has.
          let decoded : IsDecoded h r d =
          record { header = whole; rows = grind arith; decode = grind arith } in
          none decoded.decode (is_spare h r d e t decoded has);
      right = λ reaches.
          let decode = f.decode_first (omega arith) in
          rw (right_same h r d e t
          (record { header = whole; rows = f.rows_first (omega arith); decode = decode })
          (f.entries_first (omega arith)))
          (take_all 32 t (omega arith) ∙ right (omega arith));
      ends = λ has_header. omega arith;
    }

pub in_order : {h r d e t : List ℕ} {s : LongSha256} → IsBody h r d e t s
    → IsInOrder (version_of_bytes h) (h ++ r ++ d ++ e ++ t)
in_order body = parts_in_order _ _ _ _ _ body.whole body.in_order body.filled body.no_spare_bit
    body.hashed.right

-- Where the trailer isn't whole the file isn't.
pub ends_early : {h r d e t : List ℕ} {s : LongSha256} → IsBody h r d e t s → length t < 32
    → length (h ++ r ++ d ++ e ++ t) < trailer_end (version_of_bytes h) (h ++ r ++ d ++ e ++ t)
ends_early {h} {r} {d} {e} {t} body short =
    let f = body.filled in
    omega (arith, entries_end_is h r d e t body.whole, length_is h r d e t body.whole)
