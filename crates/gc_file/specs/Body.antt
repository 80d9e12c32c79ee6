-- A garbled file whose header is there, as far as its bytes have come.
use Rattle.std.specs.Prelude.{◌≡◌, ℕ, ◌<◌, ◌≤◌, ◌+◌, ◌*◌, ◌==◌, if◌then◌else◌, List, ◌++◌, IfSome, Option, length, take, drop, slice_index}
use Rattle.std.specs.Borrow.{Bor}
use Rattle.gc_lanes.specs.declared.hasher.LongSha256.{LongSha256}
use Rattle.gc_lanes.specs.Hasher.{HoldsMessage}
use Rattle.sha2.specs.Sha256.{sha256}
use Rattle.gc_file.specs.declared.parts.Version.{Version}
use Rattle.gc_file.specs.declared.parts.Version.TheVariants.{One, Two}
use Rattle.gc_file.specs.DecodeBits.{bytes_for, IsSpare}
use Rattle.gc_file.specs.GarbledFile.{entry_count}
use Rattle.gc_file.specs.FileFault.{row_count, output_count, IsHeaderInOrder}

-- The version that the eighth byte gives; 50 is the digit 2.
unfoldable pub version_of_bytes : List ℕ → Version
version_of_bytes bytes = if slice_index bytes 7 == 50 then Two else One

-- The numbers of bytes of rows, of decode bits and of entries that follow a header.
abbrev pub row_size : List ℕ → ℕ
row_size header = 32 * row_count header

abbrev pub decode_size : List ℕ → ℕ
decode_size header = bytes_for (output_count header)

abbrev pub entry_size : List ℕ → ℕ
entry_size header = 32 * entry_count (version_of_bytes header) (output_count header)

-- The four parts after a header have no more bytes than these, and none before the parts that come before it are whole.
pub record IsFilled (row_size decode_size entry_size : ℕ)
    (rows decode entries trailer : List ℕ) : Type 0 where
  pub rows_fit : length rows ≤ row_size
  pub decode_fits : length decode ≤ decode_size
  pub entries_fit : length entries ≤ entry_size
  pub trailer_fits : length trailer ≤ 32
  pub rows_first : 0 < length decode + length entries + length trailer → length rows ≡ row_size
  pub decode_first : 0 < length entries + length trailer → length decode ≡ decode_size
  pub entries_first : 0 < length trailer → length entries ≡ entry_size

-- Until the trailer is whole the hasher holds the message before it; then the trailer is the message's digest.
pub record IsHashed (message trailer : List ℕ) (hasher : LongSha256) : Type 0 where
  pub holds : length trailer < 32 → HoldsMessage hasher message
  pub right : length trailer ≡ 32 → trailer ≡ sha256 message

-- A digest that is given is that of the message, where the trailer is whole and nothing of a piece is left.
abbrev pub IsGiven : Option (Bor (List ℕ)) → List ℕ → List ℕ → List ℕ → Type 0
IsGiven digest message trailer left =
    length trailer ≡ 32 → length left ≡ 0 → IfSome digest (λ given. given.now ≡ sha256 message)

-- The parts are in order as far as they go.
pub record IsBody (header rows decode entries trailer : List ℕ) (hasher : LongSha256) : Type 0 where
  pub whole : length header ≡ 48
  pub in_order : IsHeaderInOrder (version_of_bytes header) header
  pub filled : IsFilled (row_size header) (decode_size header) (entry_size header)
      rows decode entries trailer
  pub no_spare_bit : length decode ≡ decode_size header → IsSpare (output_count header) decode → ⊥
  pub hashed : IsHashed (header ++ rows ++ decode ++ entries) trailer hasher

-- A piece, cut into what each part lacks and what is left.
pub record IsCutUp (n1 n2 n3 n4 : ℕ) (piece q1 q2 q3 q4 left : List ℕ) : Type 0 where
  pub rows : q1 ≡ take n1 piece
  pub decode : q2 ≡ take n2 (drop n1 piece)
  pub entries : q3 ≡ take n3 (drop n2 (drop n1 piece))
  pub trailer : q4 ≡ take n4 (drop n3 (drop n2 (drop n1 piece)))
  pub rest : left ≡ drop n4 (drop n3 (drop n2 (drop n1 piece)))
