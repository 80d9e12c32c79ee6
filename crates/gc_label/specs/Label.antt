-- The labels of wires, after "Two Halves Make a Whole" (Zahur, Rosulek and Evans, 2015).
--
-- A label is 16 bytes. A contract sees it as the number below 2 ^ 128 that these bytes spell, the
-- first byte highest. So the order of labels is that of their bytes, and bit i of byte k (bit 0 the
-- lowest of its byte) is bit 120 - 8 * k + i of the number.
use Rattle.std.specs.Prelude.{ℕ, ◌==◌, ◌++◌, Bool, if◌then◌else◌, List, bit_xor, take, drop}
use Rattle.std.specs.Int.{w64, w128, bit_at, to_be_bytes, from_be_bytes, to_le_bytes, from_le_bytes}

-- the sum of two labels: each bit is the exclusive or of theirs
infixl 20 ◌⊕◌
abbrev pub ◌⊕◌ : ℕ → ℕ → ℕ
a ⊕ b = bit_xor a b

-- the colour of a label: the lowest bit of its byte 0
abbrev pub colour : ℕ → Bool
colour label = bit_at label 120 == 1

-- a bit times a label: the label where the bit is 1, else 16 zero bytes
abbrev pub times : Bool → ℕ → ℕ
times bit label = if bit then label else 0

-- the label of 16 bytes
unfoldable pub label_of_bytes : List ℕ → ℕ
label_of_bytes bytes = from_be_bytes w128 bytes

-- the 16 bytes of a label
unfoldable pub bytes_of_label : ℕ → List ℕ
bytes_of_label label = to_be_bytes w128 label

-- A label in two words of 64 bits. The low half is its bytes 0 to 7, little-endian,
abbrev pub low_half : ℕ → ℕ
low_half label = from_le_bytes w64 (take 8 (bytes_of_label label))

-- and the high half its bytes 8 to 15.
abbrev pub high_half : ℕ → ℕ
high_half label = from_le_bytes w64 (drop 8 (bytes_of_label label))

-- the label of two halves
abbrev pub label_of_halves : ℕ → ℕ → ℕ
label_of_halves low high = label_of_bytes (to_le_bytes w64 low ++ to_le_bytes w64 high)
