use Rattle.gc_kept.proofs.Names.{◌-◌, ◌<◌, ◌≤◌, map, AreBeside}
use Rattle.gc_kept.proofs.jobs.end_of_group.Given as goal

abbrev pub invariant-loop-end : goal.invariant-loop-end
invariant-loop-end l = record {
  some : l.first < l.end;
  within : l.end ≤ l.last;
  one : AreBeside (map (λ j. j.now) l.jobs) l.first l.end;
}

abbrev pub decreases-loop-end : goal.decreases-loop-end
decreases-loop-end l = l.last - l.end
