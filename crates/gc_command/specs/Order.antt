-- The command `order`: what it writes and returns, and which fault it has.
use Rattle.std.specs.Prelude.{ℕ, List, Option}
use Rattle.gc_netlist.specs.Circuit.{Netlist}
use Rattle.gc_netlist.specs.Canon.{canonical_text}
use Rattle.gc_depth.specs.Order.{IsOrdered}
use Rattle.gc_command.specs.declared.fault.Fault.{Fault}
use Rattle.gc_command.specs.declared.fault.Fault.TheVariants.{CannotWrite}
use Rattle.gc_command.specs.CircuitFile.{IsCircuit, HasCircuitFault}
use Rattle.gc_command.specs.Wrote.{HasWritten}

-- What `order` does: it writes the canonical text of the circuit in order of AND depth, and states its number of bytes.
pub record AnswersOrder (bytes : List ℕ) (held : Option (List ℕ)) (lines : List ℕ) : Type 0 where
  pub circuit : Netlist
  pub read : IsCircuit bytes circuit
  pub ordered : Netlist
  pub order : IsOrdered circuit ordered
  pub written : HasWritten (canonical_text ordered) held lines

-- When `order` has which fault: it is the first in the order of the work, but that memory may run out at each step.
abbrev pub HasOrderFault : List ℕ → Fault → Type 0
HasOrderFault bytes CannotWrite = (c : Netlist) × IsCircuit bytes c
HasOrderFault bytes fault = HasCircuitFault bytes fault
