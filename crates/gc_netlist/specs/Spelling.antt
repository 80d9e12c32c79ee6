-- Which texts spell a circuit (the Bristol Fashion page).
use Rattle.std.specs.Prelude.{◌≡◌, ℕ, List, [], ◌∷◌, ◌++◌, length, map, Bool, true, false, Some, codes}
use Rattle.std.specs.List.{flat_map}
use Rattle.gc_netlist.specs.declared.gate.Operation.{Operation}
use Rattle.gc_netlist.specs.declared.gate.Operation.TheVariants.{Xor, And, Inv, Eq, Eqw}
use Rattle.gc_netlist.specs.declared.gate.Gate.{Gate}
use Rattle.gc_netlist.specs.Circuit.{Netlist}
use Rattle.gc_netlist.specs.Text.{tokens, number_of}

-- A word of the format: a number, in any decimal spelling, or a name.
pub data Word : Type 0 where
  Number : ℕ → Word
  Name : List ℕ → Word

abbrev pub SpellsWord : List ℕ → Word → Type 0
SpellsWord token (Number n) = number_of token ≡ Some n
SpellsWord token (Name name) = token ≡ name

-- The first tokens spell the words, each its own, and the rest comes after them.
abbrev pub SpellWords : List (List ℕ) → List Word → List (List ℕ) → Type 0
SpellWords ts [] rest = ts ≡ rest
SpellWords [] (w ∷ ws) rest = ⊥
SpellWords (t ∷ ts) (w ∷ ws) rest = SpellsWord t w × SpellWords ts ws rest

-- the number of a constant
abbrev pub bit_number : Bool → ℕ
bit_number false = 0
bit_number true = 1

-- The words of a gate that sets wire c: the numbers of wires read and set, the wires, and the operation's name.
abbrev pub words_of_operation : ℕ → Operation → List Word
words_of_operation c (Xor a b) =
    Number 2 ∷ Number 1 ∷ Number a ∷ Number b ∷ Number c ∷ Name (codes "XOR") ∷ []
words_of_operation c (And a b) =
    Number 2 ∷ Number 1 ∷ Number a ∷ Number b ∷ Number c ∷ Name (codes "AND") ∷ []
words_of_operation c (Inv a) = Number 1 ∷ Number 1 ∷ Number a ∷ Number c ∷ Name (codes "INV") ∷ []
words_of_operation c (Eq v) =
    Number 1 ∷ Number 1 ∷ Number (bit_number v) ∷ Number c ∷ Name (codes "EQ") ∷ []
words_of_operation c (Eqw a) = Number 1 ∷ Number 1 ∷ Number a ∷ Number c ∷ Name (codes "EQW") ∷ []

abbrev pub words_of_gate : Gate → List Word
words_of_gate g = words_of_operation g.set g.operation

-- the number of values, and the width of each
abbrev pub words_of_widths : List ℕ → List Word
words_of_widths widths = Number (length widths) ∷ map Number widths

-- The words of a circuit: its numbers of gates and wires, its input values, its output values, and its gates.
abbrev pub words_of_circuit : Netlist → List Word
words_of_circuit c =
    Number (length c.gates) ∷ Number c.wires
    ∷ (words_of_widths c.input_widths ++ words_of_widths c.output_widths
    ++ flat_map words_of_gate c.gates)

-- The text spells the circuit: each token spells its word, and none is left.
abbrev pub Spells : List ℕ → Netlist → Type 0
Spells text c = SpellWords (tokens text) (words_of_circuit c) []
