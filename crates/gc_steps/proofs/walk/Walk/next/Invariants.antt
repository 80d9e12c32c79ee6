use Rattle.std.proofs.Common.{◌≡◌, ◌≤◌}
use Rattle.gc_steps.specs.Walks.{groups_left}
use Rattle.gc_steps.proofs.walk.Walk.next.Given as goal

abbrev pub invariant-loop-self : goal.invariant-loop-self
invariant-loop-self g l = record {
  gates : l.self.gates ≡ l.fn.self.gates;
  left : groups_left l.self ≤ groups_left l.fn.self;
  learnt : l.self.learnt ≡ l.fn.self.learnt;
}

abbrev pub decreases-loop-self : goal.decreases-loop-self
decreases-loop-self g l = l.self.left
