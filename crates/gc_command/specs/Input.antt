-- What `run` and `labels` read: a circuit's file, the text of a seed, and the texts of input values.
use Rattle.std.specs.Prelude.{ℕ, Bool, List}
use Rattle.gc_netlist.specs.Circuit.{Netlist}
use Rattle.gc_label.specs.Seed.{IsSeedText}
use Rattle.gc_command.specs.declared.fault.Fault.{Fault}
use Rattle.gc_command.specs.declared.fault.Fault.TheVariants.{Circuit, WrongCount, Value, BadSeed, CannotRead, Memory}
use Rattle.gc_command.specs.CircuitFile.{IsCircuit, HasCircuitFault}
use Rattle.gc_command.specs.Values.{SpellValues, HasValueFault}

-- The bytes are a circuit's, the seed's text is a seed, and the texts spell values of the circuit's input widths.
pub record IsInput (bytes seed : List ℕ) (texts : List (List ℕ)) (c : Netlist)
    (values : List (List Bool)) : Type 0 where
  pub circuit : IsCircuit bytes c
  pub seed_text : IsSeedText seed
  pub input_values : SpellValues c.input_widths texts values

-- There are such a circuit and such values.
abbrev pub HasInput : List ℕ → List ℕ → List (List ℕ) → Type 0
HasInput bytes seed texts =
    (c : Netlist) × ((values : List (List Bool)) × IsInput bytes seed texts c values)

-- The faults of reading them in turn: the first one, but that memory may run out at each step.
abbrev pub HasInputFault : List ℕ → List ℕ → List (List ℕ) → Fault → Type 0
HasInputFault bytes seed texts CannotRead = HasCircuitFault bytes CannotRead
HasInputFault bytes seed texts (Circuit fault) = HasCircuitFault bytes (Circuit fault)
HasInputFault bytes seed texts BadSeed = ((c : Netlist) × IsCircuit bytes c) × ¬ IsSeedText seed
HasInputFault bytes seed texts WrongCount =
    (c : Netlist) × IsCircuit bytes c × IsSeedText seed
    × HasValueFault c.input_widths texts WrongCount
HasInputFault bytes seed texts (Value fault) =
    (c : Netlist) × IsCircuit bytes c × IsSeedText seed
    × HasValueFault c.input_widths texts (Value fault)
HasInputFault bytes seed texts Memory = Unit {0}
HasInputFault bytes seed texts _ = ⊥
