-- The faults of the files of an evaluation.
use Rattle.gc_command.proofs.Names.{ℕ, List, [], ◌∷◌, inl, inr, refl, arith, Netlist, GarbledParts, LabelFileParts, FileBytes, Fault, HasJobFault, HasGarbledFault, HasLabelFault, HasLabelFilesFault, HasFilesFault, AreEvalFiles, HasEvalFault}
use Rattle.gc_command.specs.declared.fault.Fault.TheVariants as faults

-- The faults of the files of an evaluation: that one can't be read, that one is not well formed, or
-- want of memory.
abbrev pub IsFileFault : Fault → Type 0
IsFileFault (faults.File fault) = Unit {0}
IsFileFault faults.CannotRead = Unit {0}
IsFileFault faults.Memory = Unit {0}
IsFileFault _ = ⊥

module _ (bytes : FileBytes) (Failed : List ℕ → Type 0) where
  garbled-kind : (name : List ℕ) (fault : Fault) → HasGarbledFault bytes Failed name fault
      → IsFileFault fault
  garbled-kind name fault has = grind arith

  label-kind : (name : List ℕ) (fault : Fault) → HasLabelFault bytes Failed name fault
      → IsFileFault fault
  label-kind name fault has = grind arith

  labels-kind : (names : List (List ℕ)) (fault : Fault)
      → HasLabelFilesFault bytes Failed names fault → IsFileFault fault
  labels-kind [] fault is = rw is tt
  labels-kind (name ∷ names) fault (inl here) = label-kind name fault here
  labels-kind (name ∷ names) fault (inr later) = labels-kind names fault later.2

  pub files-kind : (garbled : List ℕ) (labels : List (List ℕ)) (fault : Fault)
      → HasFilesFault bytes Failed garbled labels fault → IsFileFault fault
  files-kind garbled labels fault (inl here) = garbled-kind garbled fault here
  files-kind garbled labels fault (inr later) = labels-kind labels fault later.2

  -- Memory may run out at any label file.
  pub labels-memory : (names : List (List ℕ)) → HasLabelFilesFault bytes Failed names faults.Memory
  labels-memory [] = refl
  labels-memory (name ∷ names) = inl tt

-- A fault of the files' job is one of `eval`.
pub job-fault : {bytes : FileBytes} {circuit garbled : List ℕ} {labels : List (List ℕ)} {c : Netlist}
    {g : GarbledParts} {files : List LabelFileParts} (Failed : List ℕ → Type 0) (workers : ℕ)
    → AreEvalFiles bytes circuit garbled labels c g files
    → (fault : Fault) → HasJobFault c g files workers fault
    → HasEvalFault bytes Failed circuit garbled workers labels fault
job-fault Failed workers read (faults.Binding fault) has = (_, (_, (_, (read, has))))
job-fault Failed workers read (faults.Evaluation fault) has = (_, (_, (_, (read, has))))
job-fault Failed workers read fault has = absurd has
