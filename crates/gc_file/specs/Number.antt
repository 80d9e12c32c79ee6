-- Whole numbers in files: four bytes each, the lowest first.
use Rattle.std.specs.Prelude.{ℕ, List, drop}
use Rattle.byteorder.specs.Endian.{little_bytes, little_number}

-- The bytes of a number.
unfoldable pub number_bytes : ℕ → List ℕ
number_bytes n = little_bytes 4 n

-- The number in the four bytes from a place on.
unfoldable pub u32_at : ℕ → List ℕ → ℕ
u32_at place bytes = little_number 4 (drop place bytes)
