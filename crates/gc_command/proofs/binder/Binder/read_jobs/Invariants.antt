use Rattle.gc_command.proofs.Names.{◌≡◌, ◌≤◌, ◌-◌, ℕ, ◌++◌, List, drop, map, length, tokens, JobParts, FailedFiles, HasFailed, Fault, NameJobs, FirstBadJob}
use Rattle.gc_command.proofs.binder.Binder.read_jobs.Given as goal

-- What the lines that are left name, all of them name.
abbrev pub invariant-loop-jobs : goal.invariant-loop-jobs
invariant-loop-jobs g l =
    let bytes = g.F.Files.bytes l.fn.files in
    let failures = g.F.Files.failures l.fn.files in
    let all = map (λ line. tokens line.now) l.lines in
    let rest = drop (length l.jobs.items) all in
    record {
      most : length l.jobs.items ≤ length l.lines;
      named : (left : List JobParts) → NameJobs bytes l.self.circuit.now rest left
          → NameJobs bytes l.self.circuit.now all (l.jobs.items ++ left);
      faults : (failed : FailedFiles) (fault : Fault)
          → FirstBadJob bytes (HasFailed failures failed) l.self.circuit.now rest fault
          → FirstBadJob bytes (HasFailed failures failed) l.self.circuit.now all fault;
      same : (n : List ℕ) → g.F.Files.bytes l.files n ≡ bytes n;
      counted : g.F.Files.failures l.files ≡ failures;
    }

abbrev pub decreases-loop-jobs : goal.decreases-loop-jobs
decreases-loop-jobs g l = length l.lines - length l.jobs.items
