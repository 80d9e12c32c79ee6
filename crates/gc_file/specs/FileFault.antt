-- The first fault of bytes that are no file, in the order of the bytes.
use Rattle.std.specs.Prelude.{◌≡◌, ℕ, ◌<◌, ◌≤◌, ◌+◌, ◌-◌, ◌*◌, ◌%◌, ◌^◌, List, length, take, drop, slice_index}
use Rattle.sha2.specs.Sha256.{sha256}
use Rattle.gc_netlist.specs.declared.limits.TheConstants.{MAX_GATES, MAX_WIRES}
use Rattle.gc_file.specs.declared.fault.FileFault.{FileFault}
use Rattle.gc_file.specs.declared.fault.FileFault.TheVariants.{BadMagic, Truncated, Trailing, CountTooLarge, SpareBits, BadTrailer}
use Rattle.gc_file.specs.declared.parts.Version.{Version}
use Rattle.gc_file.specs.Number.{u32_at}
use Rattle.gc_file.specs.DecodeBits.{bytes_for}
use Rattle.gc_file.specs.GarbledFile.{magic, entry_count}
use Rattle.gc_file.specs.LabelFile.{label_magic}

-- The bytes begin with this magic, or are a beginning of it.
abbrev pub MatchesMagic : List ℕ → List ℕ → Type 0
MatchesMagic magic bytes = take 8 bytes ≡ take (length bytes) magic

-- The counts of a garbled file,
abbrev pub row_count : List ℕ → ℕ
row_count bytes = u32_at 40 bytes

abbrev pub output_count : List ℕ → ℕ
output_count bytes = u32_at 44 bytes

-- and the places where its decode bits, its entries and its trailer end.
abbrev pub decode_end : List ℕ → ℕ
decode_end bytes = 48 + 32 * row_count bytes + bytes_for (output_count bytes)

abbrev pub entries_end : Version → List ℕ → ℕ
entries_end version bytes = decode_end bytes + 32 * entry_count version (output_count bytes)

abbrev pub trailer_end : Version → List ℕ → ℕ
trailer_end version bytes = entries_end version bytes + 32

-- The whole header is there and in order.
pub record HasHeader (version : Version) (bytes : List ℕ) : Type 0 where
  pub begins : take 8 bytes ≡ magic version
  pub whole : 48 ≤ length bytes
  pub few_rows : row_count bytes ≤ MAX_GATES
  pub few_outputs : output_count bytes ≤ MAX_WIRES

-- The last decode byte has a bit set that stands for no output wire: there are outputs mod 8 bits in it, where that
-- isn't 0.
pub record HasSpareBit (bytes : List ℕ) : Type 0 where
  pub not_full : 0 < output_count bytes % 8
  pub bit : 2 ^ (output_count bytes % 8) ≤ slice_index bytes (decode_end bytes - 1)

-- The header and the decode bits are there and in order.
pub record HasDecodeBits (version : Version) (bytes : List ℕ) : Type 0 where
  pub header : HasHeader version bytes
  pub whole : decode_end bytes ≤ length bytes
  pub no_spare_bit : HasSpareBit bytes → ⊥

-- The 32 bytes of the trailer.
abbrev pub trailer : Version → List ℕ → List ℕ
trailer version bytes = take 32 (drop (entries_end version bytes) bytes)

-- The trailer is the digest of the bytes before it.
abbrev pub IsTrailerRight : Version → List ℕ → Type 0
IsTrailerRight version bytes =
    trailer version bytes ≡ sha256 (take (entries_end version bytes) bytes)

-- The bytes are in order up to some place, and this is the fault there. It stays, whatever bytes follow.
pub data LastingFault (bytes : List ℕ) : FileFault → Type 0 where
  -- The first bytes are those of no magic.
  bad_magic : ((version : Version) → MatchesMagic (magic version) bytes → ⊥)
      → LastingFault bytes BadMagic
  -- A count is above its limit.
  too_many_rows : (version : Version) → take 8 bytes ≡ magic version → 44 ≤ length bytes
      → MAX_GATES < row_count bytes
      → LastingFault bytes CountTooLarge
  too_many_outputs : (version : Version) → take 8 bytes ≡ magic version → 48 ≤ length bytes
      → MAX_WIRES < output_count bytes
      → LastingFault bytes CountTooLarge
  -- The last decode byte is there, and has a spare bit set.
  spare_bits : (version : Version) → HasHeader version bytes → decode_end bytes ≤ length bytes
      → HasSpareBit bytes
      → LastingFault bytes SpareBits
  -- The trailer is there, and is wrong.
  bad_trailer : (version : Version) → HasDecodeBits version bytes
      → trailer_end version bytes ≤ length bytes
      → (IsTrailerRight version bytes → ⊥) → LastingFault bytes BadTrailer
  -- The file is whole, and more bytes follow.
  trailing : (version : Version) → HasDecodeBits version bytes
      → trailer_end version bytes < length bytes
      → IsTrailerRight version bytes → LastingFault bytes Trailing

-- A beginning of a header is in order as far as it goes.
pub record IsHeaderInOrder (version : Version) (bytes : List ℕ) : Type 0 where
  pub begun : MatchesMagic (magic version) bytes
  pub few_rows : 44 ≤ length bytes → row_count bytes ≤ MAX_GATES
  pub few_outputs : 48 ≤ length bytes → output_count bytes ≤ MAX_WIRES

-- The bytes are in order as far as they go.
pub record IsInOrder (version : Version) (bytes : List ℕ) : Type 0 where
  pub header : IsHeaderInOrder version bytes
  pub no_spare_bit : decode_end bytes ≤ length bytes → HasSpareBit bytes → ⊥
  pub right : trailer_end version bytes ≤ length bytes → IsTrailerRight version bytes
  pub ends : 48 ≤ length bytes → length bytes ≤ trailer_end version bytes

abbrev pub IsSound : List ℕ → Type 0
IsSound bytes = (version : Version) × IsInOrder version bytes

-- The first fault of bytes that are no garbled file: a fault that stays or, where the bytes are in order as far as they
-- go, that they end before the trailer does.
pub data FirstGarbledFault (bytes : List ℕ) : FileFault → Type 0 where
  lasting : (e : FileFault) → LastingFault bytes e → FirstGarbledFault bytes e
  truncated : (version : Version) → IsInOrder version bytes
      → length bytes < trailer_end version bytes
      → FirstGarbledFault bytes Truncated

-- The number of labels of a label file, and the place where it ends.
abbrev pub label_count : List ℕ → ℕ
label_count bytes = u32_at 12 bytes

abbrev pub labels_end : List ℕ → ℕ
labels_end bytes = 16 + 16 * label_count bytes

-- The first fault of bytes that are no label file, in the order of the bytes. Each but the last stays, whatever bytes
-- follow.
pub data FirstLabelFault (bytes : List ℕ) : FileFault → Type 0 where
  bad_label_magic : (MatchesMagic label_magic bytes → ⊥) → FirstLabelFault bytes BadMagic
  too_many_labels : MatchesMagic label_magic bytes → 16 ≤ length bytes
      → MAX_WIRES < label_count bytes
      → FirstLabelFault bytes CountTooLarge
  labels_trailing : MatchesMagic label_magic bytes → 16 ≤ length bytes
      → label_count bytes ≤ MAX_WIRES
      → labels_end bytes < length bytes → FirstLabelFault bytes Trailing
  header_truncated : MatchesMagic label_magic bytes → length bytes < 16
      → FirstLabelFault bytes Truncated
  labels_truncated : MatchesMagic label_magic bytes → 16 ≤ length bytes
      → label_count bytes ≤ MAX_WIRES
      → length bytes < labels_end bytes → FirstLabelFault bytes Truncated
