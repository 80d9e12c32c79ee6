-- The arguments, by clap's rules.
use Rattle.std.specs.Prelude.{◌≡◌, ◌≢◌, ℕ, ◌+◌, ◌⊎◌, List, [], Some, Result, Ok, Err}
use Rattle.clap.specs.Words.{IsAmong, fault_of, kind_of}
use Rattle.clap.specs.declared.error.Error.{Error}
use Rattle.clap.specs.declared.error.kind.ErrorKind.TheVariants.{DisplayHelp, DisplayVersion, OutOfMemory}
use Rattle.gc_order.specs.declared.order.Asked.{Asked}
use Rattle.gc_order.specs.Order.{OrderText, explains_in, order_in, program, order_text}

-- The arguments are an order.
abbrev pub IsOrder : List (List ℕ) → OrderText → Type 0
IsOrder words order = (fault_of program words ≡ []) × (order_in words ≡ Some order)

-- The arguments ask for a text that goes to standard output.
abbrev pub AsksForText : List (List ℕ) → Type 0
AsksForText words =
    IsAmong DisplayHelp (fault_of program words) ⊎ IsAmong DisplayVersion (fault_of program words)

-- The arguments are neither.
abbrev pub IsMistaken : List (List ℕ) → Type 0
IsMistaken words = (fault_of program words ≢ []) × ¬ AsksForText words

-- The arguments are refused for one of their faults, or because memory ran out, which is counted.
abbrev pub IsRefusal : List (List ℕ) → ℕ → ℕ → Error → Type 0
IsRefusal words old new error =
    (IsAmong (kind_of error) (fault_of program words) × (new ≡ old))
    ⊎ ((kind_of error ≡ OutOfMemory) × (new ≡ old + 1))

-- What the arguments ask for: their order, and whether its fault is to be explained; or why they are refused.
abbrev pub IsAsked : List (List ℕ) → ℕ → ℕ → Result Asked Error → Type 0
IsAsked words old new (Ok asked) =
    IsOrder words (order_text asked.order) × (asked.explains ≡ explains_in words)
IsAsked words old new (Err error) = IsRefusal words old new error
