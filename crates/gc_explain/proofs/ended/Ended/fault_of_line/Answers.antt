use Rattle.gc_command.proofs.JobsLemmas.{parted}
use Rattle.gc_explain.proofs.ended.Ended.fault_of_line.Goals as goal

pub returns : goal.returns
returns g c = (
  c.in-Ok-bind_by_digest.job,
  record {
    g = c.in_ok-garbled.garbled;
    files = c.in_ok-labels.labels.items;
    named = record {
      garbled = _;
      labels = _;
      names = parted c.deref.ensures.value c.in-Some.ensures.cases.0 (λ word. word.now)
          c.in-Ok.ensures;
      given = record { garbled_read = c.in_ok-garbled.ensures; labels_read = c.in_ok-labels.ensures };
    };
    bound = rw c.deref-2.ensures.value at (c.in-Ok-bind_by_digest.ensures.ok c.requires);
  },
  c.in-Err.ensures.evaluated,
)
