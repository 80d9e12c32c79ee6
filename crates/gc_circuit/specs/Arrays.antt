-- Circuits in arrays, and the text that arrays stand for.
use Rattle.std.specs.Prelude.{◌≡◌, ℕ, ◌==◌, List, [], ◌∷◌, length, map, flat_map, codes, decimal, Option, if◌then◌else◌}
use Rattle.gc_netlist.specs.declared.fault.ReadFault.{ReadFault}
use Rattle.gc_netlist.specs.Text.{tokens}
use Rattle.gc_netlist.specs.Spelling.{Word, Number, Name, words_of_widths}
use Rattle.gc_netlist.specs.Canon.{written, line}
use Rattle.gc_netlist.specs.FirstFault.{FirstFault}
use Rattle.gc_netlist.specs.Place.{place_of, IsLowest}
use Rattle.gc_circuit.specs.declared.arrays.GateNumbers.{GateNumbers}
use Rattle.gc_circuit.specs.declared.arrays.Arrays.{Arrays}

-- The words of a gate whose operation reads two wires,
abbrev pub words_of_two : GateNumbers → (name : List ℕ) → List Word
words_of_two g name =
    Number 2 ∷ Number 1 ∷ Number g.first ∷ Number g.second ∷ Number g.set ∷ Name name ∷ []

-- or has one number before its wire set.
abbrev pub words_of_one : GateNumbers → (name : List ℕ) → List Word
words_of_one g name = Number 1 ∷ Number 1 ∷ Number g.first ∷ Number g.set ∷ Name name ∷ []

-- The words of a gate. An unknown operation has its number as its name.
abbrev pub words_of_numbers : GateNumbers → List Word
words_of_numbers g =
    if g.operation == 0 then words_of_two g (codes "XOR")
    else if g.operation == 1 then words_of_two g (codes "AND")
    else if g.operation == 2 then words_of_one g (codes "INV")
    else if g.operation == 3 then words_of_one g (codes "EQ")
    else if g.operation == 4 then words_of_one g (codes "EQW")
    else words_of_two g (decimal g.operation)

-- The lines of arrays, in the order of a circuit's lines.
abbrev pub lines_of_arrays : (wires : ℕ) (inputs outputs : List ℕ) → List GateNumbers
    → List (List Word)
lines_of_arrays wires inputs outputs gates =
    (Number (length gates) ∷ Number wires ∷ []) ∷ words_of_widths inputs ∷ words_of_widths outputs
    ∷ [] ∷ map words_of_numbers gates

-- The text that arrays stand for: where they are a circuit, its canonical text.
unfoldable pub arrays_text : (wires : ℕ) (inputs outputs : List ℕ) → List GateNumbers → List ℕ
arrays_text wires inputs outputs gates = flat_map line (lines_of_arrays wires inputs outputs gates)

abbrev pub text_of : Arrays → List ℕ
text_of a = arrays_text a.wires a.input_widths.now a.output_widths.now a.gates.now

-- the tokens of the gates in that text
abbrev pub tokens_of : List GateNumbers → List (List ℕ)
tokens_of gates = map written (flat_map words_of_numbers gates)

-- The first fault of the text is e. It is found in this gate, and is about this wire.
pub record IsFound (text : List ℕ) (e : ReadFault) (gate wire : Option ℕ) : Type 0 where
  pub first : FirstFault (tokens text) e
  pub lowest : IsLowest first
  pub in_gate : gate ≡ (place_of first).gate
  pub at_wire : wire ≡ (place_of first).wire
