-- The command `run`: what it returns, and which fault it has.
use Rattle.std.specs.Prelude.{◌≡◌, ℕ, Bool, List}
use Rattle.std.specs.List.{flat_map}
use Rattle.gc_netlist.specs.Circuit.{Netlist}
use Rattle.gc_circuit.specs.Meaning.{AreOutputs}
use Rattle.gc_work.specs.declared.fault.WorkFault.TheVariants as work
use Rattle.gc_workers.specs.Workers.{AreFew}
use Rattle.gc_work.specs.WorkFault.{HasWorkFault}
use Rattle.gc_file.specs.declared.fault.FileFault.TheVariants as file
use Rattle.gc_job.specs.declared.fault.BindFault.TheVariants as bind
use Rattle.gc_job.specs.declared.fault.EvalFault.TheVariants as eval
use Rattle.gc_command.specs.declared.fault.Fault.{Fault}
use Rattle.gc_command.specs.declared.fault.Fault.TheVariants.{Garbling, File, Binding, Evaluation, Memory}
use Rattle.gc_command.specs.declared.value_form.ValueForm.{ValueForm}
use Rattle.gc_command.specs.Fault.{HasCause}
use Rattle.gc_command.specs.Input.{IsInput, HasInput, HasInputFault}
use Rattle.gc_command.specs.Lines.{output_lines}

-- The faults of the files that a run makes for itself: that there is no memory.
abbrev pub IsFilesMemoryFault : Fault → Type 0
IsFilesMemoryFault (Garbling fault) = fault ≡ work.Memory
IsFilesMemoryFault (File fault) = fault ≡ file.Memory
IsFilesMemoryFault (Binding fault) = fault ≡ bind.Memory
IsFilesMemoryFault (Evaluation fault) = fault ≡ eval.Memory
IsFilesMemoryFault Memory = Unit {0}
IsFilesMemoryFault _ = ⊥

-- What `run` returns: the lines of the circuit's outputs on the values, whatever the number of workers.
pub record AnswersRun (bytes seed : List ℕ) (workers : ℕ) (form : ValueForm)
    (texts : List (List ℕ)) (lines : List ℕ) : Type 0 where
  pub circuit : Netlist
  pub values : List (List Bool)
  pub input : IsInput bytes seed texts circuit values
  pub few : AreFew workers
  pub outputs : List Bool
  pub computed : AreOutputs circuit (flat_map (λ value. value) values) outputs
  pub printed : lines ≡ output_lines form circuit.output_widths outputs

-- When `run` has which fault: it is the first in the order of the work, but that memory may run out at each step.
abbrev pub HasRunFault : List ℕ → List ℕ → ℕ → List (List ℕ) → Fault → Type 0
HasRunFault bytes seed workers texts (Garbling fault) =
    HasInput bytes seed texts × HasWorkFault workers fault
HasRunFault bytes seed workers texts (File fault) =
    IsFilesMemoryFault (File fault) × HasInput bytes seed texts
HasRunFault bytes seed workers texts (Binding fault) =
    IsFilesMemoryFault (Binding fault) × HasInput bytes seed texts
HasRunFault bytes seed workers texts (Evaluation fault) =
    IsFilesMemoryFault (Evaluation fault) × HasInput bytes seed texts
HasRunFault bytes seed workers texts fault = HasInputFault bytes seed texts fault

-- The fault is one that `run` has, and no file is its cause.
pub record IsRunFault (text seed : List ℕ) (workers : ℕ) (texts : List (List ℕ)) (fault : Fault)
    : Type 0 where
  pub first : HasRunFault text seed workers texts fault
  pub cause : HasCause fault ⊥ ⊥
