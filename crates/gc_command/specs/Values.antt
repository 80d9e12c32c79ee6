-- The values that texts spell, and the faults that the texts may have.
use Rattle.std.specs.Prelude.{◌≡◌, ◌≢◌, ℕ, ◌≤◌, ◌⊎◌, Bool, List, [], ◌∷◌, length, slice_get, Some, Ok, Err}
use Rattle.gc_circuit.specs.declared.value.ValueFault.{ValueFault}
use Rattle.gc_circuit.specs.declared.value.ValueFault.TheVariants as value
use Rattle.gc_circuit.specs.Value.{value_of_text}
use Rattle.gc_command.specs.declared.fault.Fault.{Fault}
use Rattle.gc_command.specs.declared.fault.Fault.TheVariants.{WrongCount, NoSuchValue, Value, Memory}

-- The texts spell values of these widths: as many, and each the bits of its own.
abbrev pub SpellValues : List ℕ → List (List ℕ) → List (List Bool) → Type 0
SpellValues [] [] [] = Unit {0}
SpellValues (width ∷ widths) (text ∷ texts) (bits ∷ values) =
    (value_of_text text width ≡ Ok bits) × SpellValues widths texts values
SpellValues _ _ _ = ⊥

-- The first text that is no value of its width has this fault.
abbrev pub FirstBadValue : List ℕ → List (List ℕ) → ValueFault → Type 0
FirstBadValue (width ∷ widths) (text ∷ texts) fault =
    (value_of_text text width ≡ Err fault)
    ⊎ ((bits : List Bool) × (value_of_text text width ≡ Ok bits)
    × FirstBadValue widths texts fault)
FirstBadValue _ _ fault = ⊥

-- The faults of the values' texts, memory aside: their number comes first.
abbrev pub HasValueFault : List ℕ → List (List ℕ) → Fault → Type 0
HasValueFault widths texts WrongCount = length texts ≢ length widths
HasValueFault widths texts (Value fault) =
    (length texts ≡ length widths) × (fault ≢ value.Memory → FirstBadValue widths texts fault)
HasValueFault widths texts Memory = Unit {0}
HasValueFault widths texts _ = ⊥

-- The text spells the bits of the input value of this index, among values of these widths.
pub record IsInputValue (widths : List ℕ) (index : ℕ) (text : List ℕ) (bits : List Bool)
    : Type 0 where
  pub width : ℕ
  pub at : slice_get widths index ≡ Some width
  pub spelled : value_of_text text width ≡ Ok bits

-- The faults of the index of an input value and of its text, memory aside: the index comes first.
abbrev pub HasInputValueFault : List ℕ → ℕ → List ℕ → Fault → Type 0
HasInputValueFault widths index text NoSuchValue = length widths ≤ index
HasInputValueFault widths index text (Value fault) =
    (width : ℕ) × (slice_get widths index ≡ Some width)
    × (fault ≢ value.Memory → value_of_text text width ≡ Err fault)
HasInputValueFault widths index text _ = ⊥
