-- What a garbled file and label files decode to, and why they don't.
use Rattle.std.specs.Prelude.{◌≢◌, ℕ, Bool, List, Ok, Err}
use Rattle.gc_netlist.specs.Circuit.{Netlist}
use Rattle.gc_file.specs.GarbledFile.{GarbledParts}
use Rattle.gc_file.specs.LabelFile.{LabelFileParts}
use Rattle.gc_job.specs.declared.fault.BindFault.TheVariants as bind
use Rattle.gc_job.specs.Job.{JobParts}
use Rattle.gc_job.specs.Binding.{FirstBindFault, IsBound}
use Rattle.gc_job.specs.Evaluate.{IsEvaluated}
use Rattle.gc_eval.specs.Many.{IsEvaluatedBy}
use Rattle.gc_command.specs.declared.fault.Fault.{Fault}
use Rattle.gc_command.specs.declared.fault.Fault.TheVariants.{Binding, Evaluation}

-- The files are a job of the circuit, and its evaluation returns these bits.
pub record DecodeTo (c : Netlist) (g : GarbledParts) (files : List LabelFileParts)
    (bits : List Bool) : Type 0 where
  pub job : JobParts
  pub bound : IsBound c g files job
  pub evaluated : IsEvaluated job (Ok bits)

-- The faults of the files, memory aside: that of binding them, or that of their job's evaluation by this many workers.
abbrev pub HasJobFault : Netlist → GarbledParts → List LabelFileParts → ℕ → Fault → Type 0
HasJobFault c g files workers (Binding fault) = fault ≢ bind.Memory → FirstBindFault c g files fault
HasJobFault c g files workers (Evaluation fault) =
    (job : JobParts) × IsBound c g files job × IsEvaluatedBy workers job (Err fault)
HasJobFault c g files workers _ = ⊥
