use Rattle.gc_kept.proofs.Names.{◌≡◌, ◌-◌, ◌≤◌, length, map, AreKnown}
use Rattle.gc_kept.proofs.jobs.known_of.Given as goal

abbrev pub invariant-loop-next : goal.invariant-loop-next
invariant-loop-next l = record {
  within : l.next ≤ length l.jobs;
  count : length l.known.items ≡ length l.jobs;
  known : AreKnown (map (λ j. j.now) l.jobs) l.known.items;
}

abbrev pub decreases-loop-next : goal.decreases-loop-next
decreases-loop-next l = length l.jobs - l.next
