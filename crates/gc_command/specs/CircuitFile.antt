-- The circuit of a file, and the faults that the file may have.
use Rattle.std.specs.Prelude.{◌≡◌, ◌≢◌, ℕ, List, Option, IfSome, Ok, Err}
use Rattle.gc_netlist.specs.declared.fault.ReadFault.TheVariants as read
use Rattle.gc_netlist.specs.Circuit.{Netlist, IsLawful}
use Rattle.gc_netlist.specs.Text.{tokens}
use Rattle.gc_netlist.specs.Spelling.{Spells}
use Rattle.gc_netlist.specs.Reading.{circuit_of}
use Rattle.gc_command.specs.declared.fault.Fault.{Fault}
use Rattle.gc_command.specs.declared.fault.Fault.TheVariants.{Circuit, CannotRead, Memory}
use Rattle.gc_command.specs.Fault.{HasCause}

-- The bytes are the circuit's: reading returns it, they spell it, and it is lawful.
pub record IsCircuit (bytes : List ℕ) (c : Netlist) : Type 0 where
  pub read : circuit_of (tokens bytes) ≡ Ok c
  pub spelled : Spells bytes c
  pub lawful : IsLawful c

-- The fault is one that a circuit's file may have.
abbrev pub IsCircuitFault : Fault → Type 0
IsCircuitFault CannotRead = Unit {0}
IsCircuitFault (Circuit fault) = Unit {0}
IsCircuitFault Memory = Unit {0}
IsCircuitFault _ = ⊥

-- The faults of a circuit's file, where its bytes are known: memory aside, the first fault of reading them.
abbrev pub HasCircuitFault : List ℕ → Fault → Type 0
HasCircuitFault bytes CannotRead = Unit {0}
HasCircuitFault bytes (Circuit fault) = fault ≢ read.Memory → circuit_of (tokens bytes) ≡ Err fault
HasCircuitFault bytes Memory = Unit {0}
HasCircuitFault bytes _ = ⊥

-- Reading a circuit's file has this fault: one that such a file may have, and the first of its bytes, where these are
-- known. A file that can't be read has failed, as `Failed` says.
pub record HasReadingFault (bytes : Option (List ℕ)) (Failed : Type 0) (fault : Fault)
    : Type 0 where
  pub kind : IsCircuitFault fault
  pub first : IfSome bytes (λ held. HasCircuitFault held fault)
  pub cause : HasCause fault Failed ⊥
