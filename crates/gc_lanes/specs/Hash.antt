-- The tweaked hash of a label, and the words of the one block that it compresses. A label is 16 bytes, seen as the
-- number that they spell, the first byte highest.
use Rattle.std.specs.Prelude.{ℕ, List, [], ◌∷◌, ◌++◌, take}
use Rattle.std.specs.Int.{w64, w128, from_be_bytes, to_be_bytes, to_le_bytes}
use Rattle.sha2.specs.Sha256.{sha256, word_at}

-- The first 16 bytes of SHA-256 (FIPS 180-4) of the label's bytes and the tweak's 8, the lowest first.
unfoldable pub tweaked_hash : ℕ → ℕ → ℕ
tweaked_hash label tweak =
    from_be_bytes w128 (take 16 (sha256 (to_be_bytes w128 label ++ to_le_bytes w64 tweak)))

-- The sixteen words of a label of 16 bytes, a tweak of 8, and the padding of these 24: a bit 1, zeros, and
-- their length in bits, 192 (FIPS 180-4, 5.1.1 and 5.2.1).
abbrev pub padded_words : List ℕ → List ℕ → List ℕ
padded_words label tweak =
    word_at label 0 ∷ word_at label 4 ∷ word_at label 8 ∷ word_at label 12
    ∷ word_at tweak 0 ∷ word_at tweak 4 ∷ 0x80000000 ∷ 0
    ∷ 0 ∷ 0 ∷ 0 ∷ 0 ∷ 0 ∷ 0 ∷ 0 ∷ 192 ∷ []
