-- The one spelling of a circuit that its digest is taken over: its canonical text.
use Rattle.std.specs.Prelude.{◌≡◌, ℕ, List, [], ◌∷◌, ◌++◌, length, map, flat_map, decimal, Ok}
use Rattle.std.specs.List.{join_with_byte}
use Rattle.gc_netlist.specs.Circuit.{Netlist, IsLawful}
use Rattle.gc_netlist.specs.Text.{tokens}
use Rattle.gc_netlist.specs.Spelling.{Word, Number, Name, words_of_widths, words_of_gate, Spells}
use Rattle.gc_netlist.specs.Reading.{circuit_of}

-- A word as it is written: a number in decimal digits without leading zeros, a name as it is.
abbrev pub written : Word → List ℕ
written (Number n) = decimal n
written (Name name) = name

-- A line of words: one space (byte 32) between each two, and a line feed (byte 10) at the end.
abbrev pub line : List Word → List ℕ
line words = join_with_byte 32 (map written words) ++ 10 ∷ []

-- The lines of a circuit: its numbers of gates and wires, its input values, its output values, an empty line, and each
-- gate.
abbrev pub lines_of_circuit : Netlist → List (List Word)
lines_of_circuit c =
    (Number (length c.gates) ∷ Number c.wires ∷ []) ∷ words_of_widths c.input_widths
    ∷ words_of_widths c.output_widths ∷ [] ∷ map words_of_gate c.gates

-- The canonical text of a circuit is its lines, one after another.
unfoldable pub canonical_text : Netlist → List ℕ
canonical_text c = flat_map line (lines_of_circuit c)

-- The canonical text of a lawful circuit spells it, is read back as it, and is that of no other lawful circuit.
pub record CanonicalLaw (c : Netlist) : Type 0 where
  pub spells : Spells (canonical_text c) c
  pub reads : circuit_of (tokens (canonical_text c)) ≡ Ok c
  pub one_circuit : (d : Netlist) → IsLawful d → canonical_text d ≡ canonical_text c → d ≡ c
