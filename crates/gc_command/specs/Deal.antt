-- The command `deal`: what it writes and returns, and which fault it has.
use Rattle.std.specs.Prelude.{ℕ, Bool, List, Option}
use Rattle.gc_netlist.specs.Circuit.{Netlist}
use Rattle.gc_label.specs.Seed.{IsSeedText}
use Rattle.gc_file.specs.LabelFile.{label_file, label_parts_of}
use Rattle.gc_command.specs.declared.fault.Fault.{Fault}
use Rattle.gc_command.specs.declared.fault.Fault.TheVariants.{Circuit, NoSuchValue, Value, BadSeed, CannotRead, CannotWrite, Memory}
use Rattle.gc_command.specs.CircuitFile.{IsCircuit, HasCircuitFault}
use Rattle.gc_command.specs.SeedText.{IsSeed}
use Rattle.gc_command.specs.Values.{IsInputValue, HasInputValueFault}
use Rattle.gc_command.specs.Wrote.{HasWritten}

-- The bytes are a circuit's, the seed's text is a seed, and the text spells the bits of the input value of this index.
pub record IsDealInput (bytes seed_text : List ℕ) (index : ℕ) (text : List ℕ) (c : Netlist)
    (seed : List ℕ) (bits : List Bool) : Type 0 where
  pub circuit : IsCircuit bytes c
  pub seed_read : IsSeed seed_text seed
  pub value : IsInputValue c.input_widths index text bits

-- What `deal` does: it writes the value's label file under the seed, and states its number of bytes.
pub record AnswersDeal (bytes seed_text : List ℕ) (index : ℕ) (text : List ℕ)
    (held : Option (List ℕ)) (lines : List ℕ) : Type 0 where
  pub circuit : Netlist
  pub seed : List ℕ
  pub bits : List Bool
  pub input : IsDealInput bytes seed_text index text circuit seed bits
  pub written : HasWritten (label_file (label_parts_of circuit seed index bits)) held lines

-- When `deal` has which fault: it is the first in the order of the work, but that memory may run out at each step.
abbrev pub HasDealFault : List ℕ → List ℕ → ℕ → List ℕ → Fault → Type 0
HasDealFault bytes seed index text CannotRead = HasCircuitFault bytes CannotRead
HasDealFault bytes seed index text (Circuit fault) = HasCircuitFault bytes (Circuit fault)
HasDealFault bytes seed index text BadSeed = ((c : Netlist) × IsCircuit bytes c) × ¬ IsSeedText seed
HasDealFault bytes seed index text NoSuchValue =
    (c : Netlist) × IsCircuit bytes c × IsSeedText seed
    × HasInputValueFault c.input_widths index text NoSuchValue
HasDealFault bytes seed index text (Value fault) =
    (c : Netlist) × IsCircuit bytes c × IsSeedText seed
    × HasInputValueFault c.input_widths index text (Value fault)
HasDealFault bytes seed index text CannotWrite =
    (c : Netlist) × ((key : List ℕ) × ((bits : List Bool)
    × IsDealInput bytes seed index text c key bits))
HasDealFault bytes seed index text Memory = Unit {0}
HasDealFault bytes seed index text _ = ⊥
