use Rattle.gc_bank.proofs.Names.{◌≡◌, Some, map, slice_get, Inside, JobParts, active, IsSeatOf, view, jobs_on}
use Rattle.std.specs.List.{range_with_len}
use Rattle.gc_bank.proofs.worker.output_labels.Given as goal

abbrev pub invariant-loop-i : goal.invariant-loop-i
invariant-loop-i g l =
    IsSeatOf l.banks l.seat × ((view l.seat).position ≡ Inside l.round)
    × ((job : JobParts) → slice_get (jobs_on l.banks) l.round ≡ Some job
    → l.labels.items ≡ map (active job) (range_with_len l.first l.i))
