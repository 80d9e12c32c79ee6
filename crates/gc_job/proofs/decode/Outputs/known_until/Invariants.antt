use Rattle.gc_job.proofs.Names.{◌≤◌, IsKnownUntil}
use Rattle.gc_job.proofs.decode.Outputs.known_until.Given as goal

abbrev pub invariant-loop-i : goal.invariant-loop-i
invariant-loop-i l = record {
  within : l.known ≤ l.i;
  known : IsKnownUntil l.self.and_gates l.self.entries.now l.labels l.first l.fn.known
      → IsKnownUntil l.self.and_gates l.self.entries.now l.labels l.i l.known;
}
