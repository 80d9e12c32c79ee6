use Rattle.gc_command.proofs.Names.{◌≡◌, ◌++◌, List, drop, length, JobParts, Fault, MakeJobs, FirstMakeNoJob}
use Rattle.std.specs.Vec.Iter.{into_iter_items, into_iter_len}
use Rattle.gc_command.proofs.binder.Binder.jobs_of_files.Given as goal

-- What the files that are left make, all of them make.
abbrev pub invariant-loop-files : goal.invariant-loop-files
invariant-loop-files g l =
    let all = l.fn.read.items in
    let rest = drop (length l.jobs.items) all in
    record {
      can_next : (goal.iterator-loop-files g).can_next l.files-iterator;
      is_finite : (goal.iterator-loop-files g).is_finite l.files-iterator;
      left : rest ≡ into_iter_items l.files-iterator;
      count : into_iter_len l.files-iterator ≡ length (into_iter_items l.files-iterator);
      made : (left : List JobParts) → MakeJobs l.self.circuit.now rest left
          → MakeJobs l.self.circuit.now all (l.jobs.items ++ left);
      faults : (fault : Fault) → FirstMakeNoJob l.self.circuit.now rest fault
          → FirstMakeNoJob l.self.circuit.now all fault;
    }
