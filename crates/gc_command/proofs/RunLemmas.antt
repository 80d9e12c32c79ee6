-- From what each step of a run returns to what it returns as a whole.
use Rattle.gc_command.proofs.Names.{ℕ, List, Bool, Ok, Err, flat_map, refl, arith, Netlist, IsLawful, AreOutputs, GarbledParts, LabelFileParts, AreHonestFiles, HonestFilesLaw, Fault, DecodeTo, HasJobFault, AreFew, IsInput}
use Rattle.gc_job.specs.declared.fault.BindFault.TheVariants as bind
use Rattle.gc_job.specs.declared.fault.EvalFault.TheVariants as eval
use Rattle.gc_job.proofs.HonestFiles.{honest-files}
use Rattle.gc_command.specs.declared.fault.Fault.TheVariants as faults
use Rattle.gc_command.specs.Run.{IsFilesMemoryFault, IsRunFault}

module _ {c : Netlist} (lawful : IsLawful c) {seed : List ℕ} {values : List (List Bool)}
    {g : GarbledParts} {files : List LabelFileParts}
    (honest : AreHonestFiles c seed values g files) where
  law : HonestFilesLaw c seed values g files
  law = honest-files c lawful seed values g files honest

  -- Honest files decode to the circuit's outputs,
  pub honest-decode : (outputs : List Bool) → DecodeTo c g files outputs
      → AreOutputs c (flat_map (λ value. value) values) outputs
  honest-decode outputs is = law.outputs is.job is.bound (Ok outputs) is.evaluated

  -- and only memory may be missing.
  pub honest-fault : (fault : Fault) → HasJobFault c g files 1 fault → IsFilesMemoryFault fault
  honest-fault (faults.Binding bind.Memory) has = refl
  honest-fault (faults.Binding fault) has = absurd (law.no_fault fault (has (λ same. cc)))
  honest-fault (faults.Evaluation eval.BadWorkers) has = absurd (grind (arith, has.2))
  honest-fault (faults.Evaluation eval.Memory) has = refl
  honest-fault (faults.Evaluation (eval.UnknownOutputLabel output)) has =
      law.outputs has.0 has.1 (Err (eval.UnknownOutputLabel output)) has.2.1
  honest-fault fault has = absurd has

-- Where memory is missing, a run has that fault.
pub want-of-memory : {bytes seed : List ℕ} {workers : ℕ} {texts : List (List ℕ)} {c : Netlist}
    {values : List (List Bool)} → IsInput bytes seed texts c values → AreFew workers
    → (fault : Fault) → IsFilesMemoryFault fault → IsRunFault bytes seed workers texts fault
want-of-memory input few (faults.Garbling fault) want =
    record { first = ((_, (_, input)), rw want few); cause = tt }
want-of-memory input few (faults.File fault) want =
    record { first = (want, (_, (_, input))); cause = tt }
want-of-memory input few (faults.Binding fault) want =
    record { first = (want, (_, (_, input))); cause = tt }
want-of-memory input few (faults.Evaluation fault) want =
    record { first = (want, (_, (_, input))); cause = tt }
want-of-memory input few faults.Memory want = record { first = tt; cause = tt }
want-of-memory input few fault want = absurd want
