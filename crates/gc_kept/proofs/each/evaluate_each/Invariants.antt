use Rattle.gc_kept.proofs.Names.{◌≡◌, ℕ, Result, length, map, take, drop, slice_get, Some, JobParts, AreKnown, KeptFault, IsOutcome, part_for, outputs_of}
use Rattle.std.specs.Vec.{vec_len, vec_capacity}
use Rattle.gc_kept.proofs.each.evaluate_each.Given as goal

abbrev pub invariant-loop-i : goal.invariant-loop-i
invariant-loop-i l =
    let jobs = map (λ j. j.now) l.jobs in
    record {
      place : l.place ≡ outputs_of (take l.i jobs);
      made : vec_len l.outcomes ≡ l.i;
      grown : length l.outcomes.items ≡ l.i;
      room : vec_capacity l.outcomes ≡ length l.jobs;
      count : length l.known.items ≡ length l.jobs;
      known : AreKnown jobs l.known.items;
      each : (k : ℕ) (job : JobParts) (outcome : Result (Unit {0}) KeptFault)
          → slice_get jobs k ≡ Some job → slice_get l.outcomes.items k ≡ Some outcome
          → IsOutcome job (part_for jobs k job l.fn.bits) (part_for jobs k job l.bits) outcome;
      rest : drop l.place l.bits ≡ drop l.place l.fn.bits;
    }
