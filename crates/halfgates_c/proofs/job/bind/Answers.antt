use Rattle.halfgates_c.proofs.Names.{ℕ, List, Result, IfErr, IsTrue, KeptFault, CircuitWith, ◌≡◌, arith}
use Rattle.gc_kept.specs.declared.fault.KeptFault.TheVariants.{Memory}
use Rattle.gc_kept.specs.Job.{HasBoundJobFault, want}
use Rattle.halfgates_c.proofs.job.bind.Goals as goal

-- Memory may be missing for the handle too.
wanting : {T : Type 0} (c : CircuitWith) (garbled labels lengths : List ℕ) (r : Result T KeptFault)
    → IsTrue c.has_digest → IfErr r (λ fault. fault ≡ Memory)
    → IfErr r (HasBoundJobFault c garbled labels lengths)
wanting c garbled labels lengths r taken so = grind (arith, want)

pub returns-clause-fault : goal.returns-clause-fault
returns-clause-fault c = wanting c.args.circuit.now c.args.files.garbled.now c.args.files.labels.now
    c.args.files.lengths.now
    c.hand_out.result c.in_ok-job.ensures.digest c.hand_out.ensures.fault
