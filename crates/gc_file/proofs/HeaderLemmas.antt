-- The header of a garbled file.
use Rattle.gc_file.proofs.Names.{◌≡◌, ℕ, ◌-◌, ◌<◌, ◌≤◌, List, ◌++◌, length, take, drop, slice_index, refl, append_assoc, length-append, arith, FileFault, Version, magic, MatchesMagic, row_count, output_count, decode_end, entries_end, trailer_end, IsTrailerRight, HasHeader, HasSpareBit, HasDecodeBits, LastingFault, bad_magic, too_many_rows, too_many_outputs, spare_bits, bad_trailer, trailing, IsHeaderInOrder, IsInOrder, take_at, take_all, length-take, take-append-le, take-take, take-append-drop, drop-append-le, get_or_append_left, length-drop}
use Rattle.gc_file.proofs.NumberLemmas.{u32_at-append}

-- A beginning of bytes that begin with a magic is one of it too.
pub begun_before : (m bytes more : List ℕ) → MatchesMagic m (bytes ++ more) → MatchesMagic m bytes
begun_before m bytes more begun =
    grind (
      arith,
      take_at bytes more (length bytes),
      take-take {A = ℕ},
      take_all {A = ℕ},
      length-take {A = ℕ},
      length-append bytes more,
    )

-- A beginning of a header that is in order is a beginning of a file that is.
pub header_in_order : (v : Version) (bytes : List ℕ) → length bytes < 48 → IsHeaderInOrder v bytes
    → IsInOrder v bytes
header_in_order v bytes short header = grind arith

-- What holds of bytes stays when more follow.
module _ (bytes more : List ℕ) where
  outputs-more : 48 ≤ length bytes → output_count (bytes ++ more) ≡ output_count bytes
  outputs-more long = u32_at-append 44 bytes more (omega arith)

  rows-more : 44 ≤ length bytes → row_count (bytes ++ more) ≡ row_count bytes
  rows-more long = u32_at-append 40 bytes more (omega arith)

  decode_end-more : 48 ≤ length bytes → decode_end (bytes ++ more) ≡ decode_end bytes
  decode_end-more long = rw (rows-more (omega arith), outputs-more long) refl

  entries_end-more : (v : Version) → 48 ≤ length bytes
      → entries_end v (bytes ++ more) ≡ entries_end v bytes
  entries_end-more v long = rw (rows-more (omega arith), outputs-more long) refl

  header-more : (v : Version) → HasHeader v bytes → HasHeader v (bytes ++ more)
  header-more v has =
      grind (arith, take-append-le 8 bytes more, length-append bytes more, rows-more, outputs-more)

  module _ (long : 48 ≤ length bytes) (reaches : decode_end bytes ≤ length bytes) where
    last-more : slice_index (bytes ++ more) (decode_end (bytes ++ more) - 1)
        ≡ slice_index bytes (decode_end bytes - 1)
    last-more =
        rw (decode_end-more long)
        (get_or_append_left bytes more 0 (decode_end bytes - 1) (omega arith))

    spare-more : HasSpareBit bytes → HasSpareBit (bytes ++ more)
    spare-more spare = grind (arith, outputs-more, last-more)

    spare-less : HasSpareBit (bytes ++ more) → HasSpareBit bytes
    spare-less spare = grind (arith, outputs-more, last-more)

  decode_bits-more : (v : Version) → HasDecodeBits v bytes → HasDecodeBits v (bytes ++ more)
  decode_bits-more v has =
      grind (arith, header-more, decode_end-more, length-append bytes more, spare-less)

  right-more : (v : Version) → 48 ≤ length bytes → trailer_end v bytes ≤ length bytes
      → IsTrailerRight v (bytes ++ more) ≡ IsTrailerRight v bytes
  right-more v long reaches =
      let end = entries_end v bytes in
      rw (
        entries_end-more v long,
        drop-append-le end bytes more (omega arith),
        take-append-le end bytes more (omega arith),
        take-append-le 32 (drop end bytes) more (omega (arith, length-drop end bytes)),
      ) refl

  -- A lasting fault is that of all longer bytes.
  pub lasts : (e : FileFault) → LastingFault bytes e → LastingFault (bytes ++ more) e
  lasts _ (bad_magic none) = bad_magic (λ v begun. none v (begun_before (magic v) bytes more begun))
  lasts _ (too_many_rows v is long many) =
      too_many_rows v (rw (take-append-le 8 bytes more (omega arith)) is)
      (omega (arith, length-append bytes more)) (rw (rows-more long) many)
  lasts _ (too_many_outputs v is long many) =
      too_many_outputs v (rw (take-append-le 8 bytes more (omega arith)) is)
      (omega (arith, length-append bytes more)) (rw (outputs-more long) many)
  lasts _ (spare_bits v header reaches spare) =
      spare_bits v (header-more v header)
      (omega (arith, decode_end-more header.whole, length-append bytes more))
      (spare-more header.whole reaches spare)
  lasts _ (bad_trailer v has reaches wrong) =
      let long = has.header.whole in
      bad_trailer v (decode_bits-more v has)
      (omega (arith, entries_end-more v long, length-append bytes more))
      (λ is. wrong (rw (right-more v long reaches) at is))
  lasts _ (trailing v has reaches is) =
      let long = has.header.whole in
      trailing v (decode_bits-more v has)
      (omega (arith, entries_end-more v long, length-append bytes more))
      (rw (right-more v long (omega arith)) is)

-- A lasting fault of the first bytes of a piece is that of the whole piece.
pub lasts_piece : (header piece : List ℕ) (n : ℕ) (e : FileFault)
    → LastingFault (header ++ take n piece) e → LastingFault (header ++ piece) e
lasts_piece header piece n e fault =
    rw (append_assoc, take-append-drop) at (lasts (header ++ take n piece) (drop n piece) e fault)
