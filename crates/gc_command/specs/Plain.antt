-- The command `plain`: what it returns, and which fault it has.
use Rattle.std.specs.Prelude.{◌≡◌, ℕ, Bool, List}
use Rattle.std.specs.List.{flat_map}
use Rattle.gc_netlist.specs.Circuit.{Netlist}
use Rattle.gc_circuit.specs.Meaning.{AreOutputs}
use Rattle.gc_command.specs.declared.fault.Fault.{Fault}
use Rattle.gc_command.specs.declared.fault.Fault.TheVariants.{Circuit, WrongCount, Value, CannotRead, Memory}
use Rattle.gc_command.specs.declared.value_form.ValueForm.{ValueForm}
use Rattle.gc_command.specs.CircuitFile.{IsCircuit, HasCircuitFault}
use Rattle.gc_command.specs.Values.{SpellValues, HasValueFault}
use Rattle.gc_command.specs.Lines.{output_lines}

-- What `plain` returns: the lines of the circuit's outputs on the values that the texts spell.
pub record AnswersPlain (bytes : List ℕ) (form : ValueForm) (texts : List (List ℕ))
    (lines : List ℕ) : Type 0 where
  pub circuit : Netlist
  pub read : IsCircuit bytes circuit
  pub values : List (List Bool)
  pub spelled : SpellValues circuit.input_widths texts values
  pub outputs : List Bool
  pub computed : AreOutputs circuit (flat_map (λ value. value) values) outputs
  pub printed : lines ≡ output_lines form circuit.output_widths outputs

-- When `plain` has which fault: it is the first in the order of the work, but that memory may run out at each step.
-- Where it runs out in the evaluation, that is a fault of the circuit.
abbrev pub HasPlainFault : List ℕ → List (List ℕ) → Fault → Type 0
HasPlainFault bytes texts CannotRead = HasCircuitFault bytes CannotRead
HasPlainFault bytes texts (Circuit fault) = HasCircuitFault bytes (Circuit fault)
HasPlainFault bytes texts WrongCount =
    (c : Netlist) × IsCircuit bytes c × HasValueFault c.input_widths texts WrongCount
HasPlainFault bytes texts (Value fault) =
    (c : Netlist) × IsCircuit bytes c × HasValueFault c.input_widths texts (Value fault)
HasPlainFault bytes texts Memory = Unit {0}
HasPlainFault bytes texts _ = ⊥
