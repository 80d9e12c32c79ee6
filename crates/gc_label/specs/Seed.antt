-- What a seed stands for: the offset and the zero labels of the input wires. A seed is 32 bytes, the
-- key of a keystream of 32-bit words: ChaCha20, whose block function is that of RFC 8439, with a
-- 64-bit block counter and the 64-bit stream number 0.
use Rattle.std.specs.Prelude.{◌≡◌, ℕ, ◌+◌, ◌*◌, ◌^◌, List, ◌++◌, length, bit_or}
use Rattle.std.specs.Int.{w32, to_le_bytes}
use Rattle.std.specs.List.{AllPass}
use Rattle.hex.specs.Hex.{is_hex_digit}
use Rattle.rand_chacha.specs.ChaCha.{word_at, key_of}
use Rattle.gc_label.specs.Label.{label_of_bytes}

-- word p of the seed's keystream, after the ten double rounds of ChaCha20
unfoldable pub word : List ℕ → ℕ → ℕ
word seed p = word_at 10 (key_of seed) 0 p

-- the label of four words, each written as four bytes, the lowest first
unfoldable pub label_of_words : ℕ → ℕ → ℕ → ℕ → ℕ
label_of_words a b c d =
    label_of_bytes
    (to_le_bytes w32 a ++ to_le_bytes w32 b ++ to_le_bytes w32 c ++ to_le_bytes w32 d)

-- the label of the keystream's words p to p + 3
unfoldable pub label_at : List ℕ → ℕ → ℕ
label_at seed p =
    label_of_words (word seed p) (word seed (p + 1)) (word seed (p + 2)) (word seed (p + 3))

-- the offset: words 0 to 3, with the lowest bit of byte 0 set to 1
unfoldable pub offset_of : List ℕ → ℕ
offset_of seed = bit_or (label_at seed 0) (2 ^ 120)

-- the zero label of an input wire: words 4 * (wire + 1) to 4 * (wire + 1) + 3
unfoldable pub input_label_of : List ℕ → ℕ → ℕ
input_label_of seed wire = label_at seed (4 * (wire + 1))

-- a text spells a seed where it is 64 hexadecimal digits, of either case
abbrev pub IsSeedText : List ℕ → Type 0
IsSeedText text = (length text ≡ 64) × AllPass is_hex_digit text
