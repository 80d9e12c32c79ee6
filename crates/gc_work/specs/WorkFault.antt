-- The numbers of the faults of garbling on many threads, and when each comes.
use Rattle.std.specs.Prelude.{◌≡◌, ℕ, ◌<◌, ◌⊎◌, Result, Ok, Err}
use Rattle.gc_work.specs.declared.fault.WorkFault.{WorkFault}
use Rattle.gc_work.specs.declared.fault.WorkFault.TheVariants.{BadWorkers, Memory}
use Rattle.gc_workers.specs.declared.TheConstants.{MAX_WORKERS}
use Rattle.gc_workers.specs.Workers.{AreFew}

abbrev pub code_of : WorkFault → ℕ
code_of BadWorkers = 22
code_of Memory = 23

-- With this number of workers there is this fault: their number is wrong, or it isn't and memory ran out.
abbrev pub HasWorkFault : ℕ → WorkFault → Type 0
HasWorkFault workers BadWorkers = (workers ≡ 0) ⊎ (MAX_WORKERS < workers)
HasWorkFault workers Memory = AreFew workers

-- The number of workers is refused exactly where it is 0 or above the limit.
abbrev pub JudgesWorkers : {X : Type 0} → ℕ → Result X WorkFault → Type 0
JudgesWorkers workers (Ok _) = AreFew workers
JudgesWorkers workers (Err fault) = HasWorkFault workers fault
