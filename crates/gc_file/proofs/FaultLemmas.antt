-- Bytes are one garbled file or have one first fault.
use Rattle.gc_file.proofs.Names.{◌≡◌, ℕ, ◌<◌, ◌≤◌, ◌⊎◌, inl, inr, List, length, take, sym, ◌∙◌, arith, MAX_GATES, MAX_WIRES, FileFault, BadMagic, Trailing, CountTooLarge, SpareBits, BadTrailer, Version, magic, MatchesMagic, row_count, output_count, HasHeader, HasSpareBit, HasDecodeBits, IsTrailerRight, LastingFault, bad_magic, too_many_rows, too_many_outputs, spare_bits, bad_trailer, trailing, IsInOrder, FirstGarbledFault}
use Rattle.gc_file.proofs.StepLemmas.{version_of_bytes-begun}
use Rattle.gc_file.proofs.PlaceLemmas.{begins, begun}

-- The first eight bytes give the version.
pub one_version : (v w : Version) (b : List ℕ) → take 8 b ≡ magic v → take 8 b ≡ magic w → v ≡ w
one_version v w b is is' = sym (version_of_bytes-begun v b is) ∙ version_of_bytes-begun w b is'

-- A fault that stays is the only one.
module _ (b : List ℕ) (f : FileFault) (y : LastingFault b f) where
  only_magic : ((v : Version) → MatchesMagic (magic v) b → ⊥) → BadMagic ≡ f
  only_magic none = grind (arith, none, begun)

  only_count : (v : Version) → take 8 b ≡ magic v → 44 ≤ length b
      → (MAX_GATES < row_count b) ⊎ (MAX_WIRES < output_count b) → CountTooLarge ≡ f
  only_count v is long many = grind (arith, begun)

  only_spare : (v : Version) → HasHeader v b → HasSpareBit b → SpareBits ≡ f
  only_spare v header spare = grind (arith, begun)

  only_trailer : (v : Version) → HasDecodeBits v b → (IsTrailerRight v b → ⊥) → BadTrailer ≡ f
  only_trailer v has wrong = grind (arith, begun, one_version)

  only_trailing : (v : Version) → HasDecodeBits v b → IsTrailerRight v b → Trailing ≡ f
  only_trailing v has right = grind (arith, begun, one_version)

  one_lasting : (e : FileFault) → LastingFault b e → e ≡ f
  one_lasting _ (bad_magic none) = only_magic none
  one_lasting _ (too_many_rows v is long many) = only_count v is long (inl many)
  one_lasting _ (too_many_outputs v is long many) = only_count v is (omega arith) (inr many)
  one_lasting _ (spare_bits v header reaches spare) = only_spare v header spare
  one_lasting _ (bad_trailer v has reaches wrong) = only_trailer v has wrong
  one_lasting _ (trailing v has more right) = only_trailing v has right

-- Bytes that are in order have no fault that stays.
pub no_lasting : (v : Version) (b : List ℕ) → IsInOrder v b → (e : FileFault) → LastingFault b e → ⊥
no_lasting v b in_order e x = grind (arith, one_version, begins)

pub one_fault : (b : List ℕ) (e f : FileFault) → FirstGarbledFault b e → FirstGarbledFault b f
    → e ≡ f
one_fault b e f x y = grind (arith, one_lasting, no_lasting)
