-- How many workers there may be.
use Rattle.std.specs.Prelude.{ℕ, ◌<◌, ◌≤◌}
use Rattle.gc_workers.specs.declared.TheConstants.{MAX_WORKERS}

-- There is a worker, and there are not too many.
abbrev pub AreFew : ℕ → Type 0
AreFew workers = (0 < workers) × (workers ≤ MAX_WORKERS)
