use Rattle.gc_job.proofs.Names.{length-table, rules}
use Rattle.gc_job.proofs.OutputLemmas.{decoded-job}
use Rattle.gc_job.proofs.detached.JobRef.decoded.Goals as goal

pub output_labels-labels-requires : goal.output_labels-labels-requires
output_labels-labels-requires g c =
    rw c.circuit.ensures.circuit (length-table _ _ _ c.requires.table)

pub returns : goal.returns
returns g c =
    let active = c.requires in
    let labels = c.output_labels-labels in
    let is = decoded-job c.args.self.now labels.result.now _
    (record {
      active = active.active;
      evaluation = active.evaluation;
      last = rw (← c.circuit.ensures.circuit) (labels.ensures.last active.active
          (rw c.circuit.ensures.circuit active.table));
    })
    c.decode.ensures in
    search rules
