use Rattle.gc_eval.proofs.Names.{◌≡◌, ◌≤◌, done_of}
use Rattle.gc_eval.proofs.active.Active.done.Given as goal

abbrev pub invariant-loop-gate : goal.invariant-loop-gate
invariant-loop-gate g l = (l.done ≡ done_of l.self l.gate) × (l.done ≤ l.gate)
