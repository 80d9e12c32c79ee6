-- The command `check`: what it returns, and which fault it has.
use Rattle.std.specs.Prelude.{◌≡◌, ℕ, List, [], ◌∷◌, ◌++◌, length, codes}
use Rattle.hex.specs.Hex.{encode_lower}
use Rattle.sha2.specs.Sha256.{sha256}
use Rattle.gc_netlist.specs.Circuit.{Netlist, and_count}
use Rattle.gc_netlist.specs.Spelling.{Name, words_of_widths}
use Rattle.gc_netlist.specs.Canon.{line, canonical_text}
use Rattle.gc_command.specs.declared.fault.Fault.{Fault}
use Rattle.gc_command.specs.CircuitFile.{IsCircuit, HasCircuitFault}
use Rattle.gc_command.specs.Lines.{count_line}

-- The lines of a circuit's numbers of gates, wires and AND gates, of its input and output values, and of its digest:
-- SHA-256 of the canonical text, in lower case hexadecimal digits.
abbrev pub check_lines : Netlist → List ℕ
check_lines c =
    count_line (codes "gates") (length c.gates)
    ++ count_line (codes "wires") c.wires
    ++ count_line (codes "and") (and_count c)
    ++ line (Name (codes "inputs") ∷ words_of_widths c.input_widths)
    ++ line (Name (codes "outputs") ∷ words_of_widths c.output_widths)
    ++ line (Name (codes "digest") ∷ Name (encode_lower (sha256 (canonical_text c))) ∷ [])

-- What `check` returns: the lines of the circuit that the bytes are.
pub record AnswersCheck (bytes lines : List ℕ) : Type 0 where
  pub circuit : Netlist
  pub read : IsCircuit bytes circuit
  pub printed : lines ≡ check_lines circuit

-- When `check` has which fault: those of the circuit's file alone, but that memory may run out.
abbrev pub HasCheckFault : List ℕ → Fault → Type 0
HasCheckFault bytes fault = HasCircuitFault bytes fault
