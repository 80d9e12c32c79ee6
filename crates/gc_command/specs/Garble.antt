-- The command `garble`: what it writes and returns, and which fault it has.
use Rattle.std.specs.Prelude.{ℕ, List, Option}
use Rattle.gc_netlist.specs.Circuit.{Netlist}
use Rattle.gc_label.specs.Seed.{IsSeedText}
use Rattle.gc_half.specs.Garbling.{GarblingParts, IsGarbled}
use Rattle.gc_workers.specs.Workers.{AreFew}
use Rattle.gc_work.specs.WorkFault.{HasWorkFault}
use Rattle.gc_file.specs.declared.parts.Version.{Version}
use Rattle.gc_file.specs.GarbledFile.{garbled_file}
use Rattle.gc_file.specs.Honest.{honest_parts}
use Rattle.gc_command.specs.declared.fault.Fault.{Fault}
use Rattle.gc_command.specs.declared.fault.Fault.TheVariants.{Circuit, BadSeed, Garbling, CannotRead, CannotWrite, Memory}
use Rattle.gc_command.specs.Fault.{HasCause}
use Rattle.gc_command.specs.CircuitFile.{IsCircuit, HasCircuitFault}
use Rattle.gc_command.specs.SeedText.{IsSeed}
use Rattle.gc_command.specs.Wrote.{HasWritten}

-- The bytes are a circuit's, and the seed's text is a seed.
pub record IsGarbleInput (bytes seed_text : List ℕ) (c : Netlist) (seed : List ℕ) : Type 0 where
  pub circuit : IsCircuit bytes c
  pub seed_read : IsSeed seed_text seed

-- What `garble` does, whatever the number of workers: it writes the garbled file of the version, of the circuit's
-- garbling under the seed, and states its number of bytes.
pub record AnswersGarble (bytes seed_text : List ℕ) (version : Version) (workers : ℕ)
    (held : Option (List ℕ)) (lines : List ℕ) : Type 0 where
  pub circuit : Netlist
  pub seed : List ℕ
  pub input : IsGarbleInput bytes seed_text circuit seed
  pub few : AreFew workers
  pub garbling : GarblingParts
  pub garbled : IsGarbled circuit seed garbling
  pub written : HasWritten (garbled_file (honest_parts version circuit garbling seed)) held lines

-- When `garble` has which fault: it is the first in the order of the work, but that memory may run out at each step.
abbrev pub HasGarbleFault : List ℕ → List ℕ → ℕ → Fault → Type 0
HasGarbleFault bytes seed workers CannotRead = HasCircuitFault bytes CannotRead
HasGarbleFault bytes seed workers (Circuit fault) = HasCircuitFault bytes (Circuit fault)
HasGarbleFault bytes seed workers BadSeed = ((c : Netlist) × IsCircuit bytes c) × ¬ IsSeedText seed
HasGarbleFault bytes seed workers (Garbling fault) =
    ((c : Netlist) × ((key : List ℕ) × IsGarbleInput bytes seed c key)) × HasWorkFault workers fault
HasGarbleFault bytes seed workers CannotWrite =
    ((c : Netlist) × ((key : List ℕ) × IsGarbleInput bytes seed c key)) × AreFew workers
HasGarbleFault bytes seed workers Memory = Unit {0}
HasGarbleFault bytes seed workers _ = ⊥

-- Reading what `garble` garbles has this fault, and no file is its cause.
pub record IsGarbleInputFault (text seed : List ℕ) (workers : ℕ) (fault : Fault) : Type 0 where
  pub first : HasGarbleFault text seed workers fault
  pub cause : HasCause fault ⊥ ⊥
