use Rattle.std.proofs.Common.{◌≡◌, take}
use Rattle.gc_bank.proofs.open.series_of.Given as goal

abbrev pub invariant-loop-job : goal.invariant-loop-job
invariant-loop-job g l = l.series.items ≡ take l.job-index l.jobs
