use Rattle.gc_kept.proofs.Names.{◌≡◌, ◌-◌, ◌≤◌, length, map, take, sha256}
use Rattle.gc_kept.proofs.garblings.trailers_of.Given as goal

abbrev pub invariant-loop-next : goal.invariant-loop-next
invariant-loop-next l = record {
  within : l.next ≤ length l.bodies;
  done : l.trailers.items ≡ map (λ b. sha256 b.now) (take l.next l.bodies);
}

abbrev pub decreases-loop-next : goal.decreases-loop-next
decreases-loop-next l = length l.bodies - l.next
