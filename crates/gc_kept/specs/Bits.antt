-- Bits as bytes.
use Rattle.std.specs.Prelude.{◌≡◌, ◌≢◌, ℕ, Bool, List, length, slice_get, Some}
use Rattle.gc_netlist.specs.Spelling.{bit_number}
use Rattle.gc_netlist.specs.declared.fault.ReadFault.TheVariants as read
use Rattle.gc_kept.specs.declared.fault.KeptFault.{KeptFault}
use Rattle.gc_kept.specs.declared.fault.KeptFault.TheVariants.{Circuit, BadDigit, WrongLength}

-- A byte is neither 0 nor 1.
pub record HasBadDigit (bytes : List ℕ) : Type 0 where
  pub place : ℕ
  pub byte : ℕ
  pub at : slice_get bytes place ≡ Some byte
  pub bad : (bit : Bool) → byte ≢ bit_number bit

-- The fault of bytes that stand for a number of bits: their length, then a bad digit. Memory may be missing instead.
abbrev pub HasBitsFault : List ℕ → ℕ → KeptFault → Type 0
HasBitsFault bytes count WrongLength = length bytes ≢ count
HasBitsFault bytes count BadDigit = (length bytes ≡ count) × HasBadDigit bytes
HasBitsFault bytes count (Circuit fault) = fault ≡ read.Memory
HasBitsFault bytes count _ = ⊥
