use Rattle.gc_eval.proofs.Names.{◌≡◌, ◌+◌, ◌<◌, ℕ, map, range_with_len, active, HasLabel}
use Rattle.gc_eval.proofs.active.Active.output_labels.Given as goal

abbrev pub invariant-loop-i : goal.invariant-loop-i
invariant-loop-i g l =
    (l.labels.items ≡ map (active l.self.job.now) (range_with_len l.first l.i))
    × ((k : ℕ) → k < l.i → HasLabel l.self (l.first + k))
