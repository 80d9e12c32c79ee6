-- The command `locate`: what it returns, and which fault it has.
use Rattle.std.specs.Prelude.{◌≡◌, ℕ, ◌⊎◌, List, [], ◌∷◌, ◌++◌, Option, Some, None, codes}
use Rattle.gc_netlist.specs.declared.fault.ReadFault.{ReadFault}
use Rattle.gc_netlist.specs.declared.fault.ReadFault.TheVariants as read
use Rattle.gc_netlist.specs.Names.{fault_name}
use Rattle.gc_netlist.specs.Fault.{code_of}
use Rattle.gc_netlist.specs.Circuit.{Netlist}
use Rattle.gc_netlist.specs.Spelling.{Number, Name}
use Rattle.gc_netlist.specs.Canon.{line}
use Rattle.gc_netlist.specs.Place.{IsLocated}
use Rattle.gc_circuit.specs.declared.locate.Located.{Located}
use Rattle.gc_command.specs.declared.fault.Fault.{Fault}
use Rattle.gc_command.specs.declared.fault.Fault.TheVariants.{Circuit, CannotRead, Memory}
use Rattle.gc_command.specs.CircuitFile.{IsCircuit}
use Rattle.gc_command.specs.Lines.{count_line}

-- the line of a fault: its number and its name
abbrev pub fault_line : ReadFault → List ℕ
fault_line fault =
    line (Name (codes "fault") ∷ Number (code_of fault) ∷ Name (fault_name (code_of fault)) ∷ [])

-- the line of a name and a number, if there is one
abbrev pub optional_line : List ℕ → Option ℕ → List ℕ
optional_line name None = []
optional_line name (Some n) = count_line name n

-- The lines of a fault, its line and column, its gate and its wire.
abbrev pub located_lines : Located → List ℕ
located_lines located =
    fault_line located.fault
    ++ count_line (codes "line") located.line ++ count_line (codes "column") located.column
    ++ optional_line (codes "gate") located.gate ++ optional_line (codes "wire") located.wire

-- What `locate` returns: where the first fault is; or that there is none, and then the bytes are a circuit's.
abbrev pub AnswersLocate : List ℕ → List ℕ → Type 0
AnswersLocate bytes lines =
    ((c : Netlist) × IsCircuit bytes c × (lines ≡ codes "no fault\n"))
    ⊎ ((l : Located) × IsLocated bytes l.fault l.line l.column l.gate l.wire
    × (lines ≡ located_lines l))

-- The faults of `locate`: that the file can't be read, or that memory runs out.
abbrev pub HasLocateFault : List ℕ → Fault → Type 0
HasLocateFault bytes CannotRead = Unit {0}
HasLocateFault bytes (Circuit fault) = fault ≡ read.Memory
HasLocateFault bytes Memory = Unit {0}
HasLocateFault bytes _ = ⊥
