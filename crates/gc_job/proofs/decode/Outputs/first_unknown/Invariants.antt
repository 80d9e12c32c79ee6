use Rattle.gc_job.proofs.Names.{◌-◌, ◌≤◌, length, IsKnownUntil}
use Rattle.gc_job.proofs.decode.Outputs.first_unknown.Given as goal

abbrev pub invariant-loop-first : goal.invariant-loop-first
invariant-loop-first l = record {
  bound : l.first ≤ length l.self.labels.now;
  within : l.known ≤ l.first;
  known : IsKnownUntil l.self.and_gates l.self.entries.now l.self.labels.now l.first l.known;
}

abbrev pub decreases-loop-first : goal.decreases-loop-first
decreases-loop-first l = length l.self.labels.now - l.first
