-- Bits in files: eight to a byte, the first of them lowest.
use Rattle.std.specs.Prelude.{ℕ, ◌<◌, ◌≤◌, ◌+◌, ◌-◌, ◌*◌, ◌/◌, ◌%◌, ◌^◌, ◌==◌, Bool, if◌then◌else◌, List, [], ◌∷◌, length, map, take, drop, slice_index}
use Rattle.std.specs.Int.{bit_at}
use Rattle.std.specs.List.{range_with_len}
pub use Rattle.gc_circuit.specs.Value.{bytes_for}

-- The number with these bits, the first of them lowest.
abbrev pub bits_number : List Bool → ℕ
bits_number [] = 0
bits_number (bit ∷ bits) = (if bit then 1 else 0) + 2 * bits_number bits

-- The bytes of these bits: bit i is at place i mod 8, 0 the lowest, of byte i / 8. The places of the last byte that are
-- left over are 0.
unfoldable pub packed : List Bool → List ℕ
packed bits =
    map (λ k. bits_number (take 8 (drop (8 * k) bits)))
    (range_with_len 0 (bytes_for (length bits)))

-- Bit i of these bytes.
abbrev pub bit_in : List ℕ → ℕ → Bool
bit_in bytes i = bit_at (slice_index bytes (i / 8)) (i % 8) == 1

-- The last decode byte has a bit set that stands for no output wire.
pub record IsSpare (outputs : ℕ) (decode : List ℕ) : Type 0 where
  pub not_full : 0 < outputs % 8
  pub bit : 2 ^ (outputs % 8) ≤ slice_index decode (length decode - 1)
