-- The seed that a text spells.
use Rattle.std.specs.Prelude.{◌≡◌, ℕ, List, Ok}
use Rattle.hex.specs.Hex.{decode_of}
use Rattle.gc_label.specs.Seed.{IsSeedText}

-- The text spells this seed: 64 hexadecimal digits, of which each two are a byte.
pub record IsSeed (text seed : List ℕ) : Type 0 where
  pub accepted : IsSeedText text
  pub spelled : decode_of text ≡ Ok seed
