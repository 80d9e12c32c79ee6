-- The bits of a list of jobs.
use Rattle.gc_kept.proofs.Names.{◌≡◌, ℕ, ◌+◌, ◌<◌, ◌≤◌, Bool, List, [], ◌∷◌, length, map, take, get_or, slice_get, flat_map, Some, refl, sym, ◌∙◌, ap, arith, sum, sum-map, sum_by_more, sum_by_more_le, get_or_from_slice_get, slice_get_read, slice_get_within, slice_get-map, output_wires, JobParts, AreBeside, AreEvaluated, AreAllEvaluated, outputs_of}
use Rattle.std.proofs.lemmas.List.Concat.{length-flat_map}

-- The job at a place of a list of things that have jobs.
pub job_at : {X : Type 0} (xs : List X) (job_in : X → JobParts) (k : ℕ) (x : X) → k < length xs
    → x ≡ get_or xs k x → slice_get (map job_in xs) k ≡ Some (job_in x)
job_at xs job_in k x within is =
    rw (slice_get-map job_in xs k, slice_get_read xs (length xs) k x refl within is) refl

-- One more job is on the circuit.
pub one_more : (jobs : List JobParts) (first end : ℕ) (here there : JobParts)
    → slice_get jobs first ≡ Some here → slice_get jobs end ≡ Some there
    → there.circuit ≡ here.circuit → AreBeside jobs first end
    → AreBeside jobs first (end + 1)
one_more jobs first end here there here_at there_at same on k a b from below a_at b_at =
    grind (arith, on k a b from)

-- Of no jobs there are no bits.
pub none_evaluated : (jobs : List JobParts) (buffer : List ℕ) → length jobs ≡ 0
    → AreAllEvaluated jobs buffer buffer
none_evaluated [] buffer none = record {
  each = [];
  evaluated = record {
    count = refl;
    lengths = refl;
    each = λ k job bits at found. absurd (cc);
  };
  buffer = refl;
}
none_evaluated (job ∷ jobs) buffer none = absurd (omega (arith, none))

module _ (jobs : List JobParts) where
  -- How many output wires there are with one more job.
  pub outputs_next : (n : ℕ) (job : JobParts) → slice_get jobs n ≡ Some job
      → outputs_of (take (n + 1) jobs) ≡ outputs_of (take n jobs) + output_wires job.circuit
  outputs_next n job at =
      rw (get_or_from_slice_get jobs n job job at) at
      (sum_by_more (λ job. output_wires job.circuit) jobs n job (slice_get_within jobs n job at))

  pub outputs_within : (n : ℕ) (job : JobParts) → slice_get jobs n ≡ Some job
      → outputs_of (take n jobs) + output_wires job.circuit ≤ outputs_of jobs
  outputs_within n job at =
      rw (get_or_from_slice_get jobs n job job at) at
      (sum_by_more_le (λ job. output_wires job.circuit) jobs n job (slice_get_within jobs n job at))

  -- All bits together are one for each of them.
  pub length-all : (each : List (List Bool)) → AreEvaluated jobs each
      → length (flat_map (λ bits. bits) each) ≡ outputs_of jobs
  length-all each is =
      length-flat_map (λ (bits : List Bool). bits) each ∙ sym (sum-map length each)
      ∙ ap sum is.lengths ∙ sum-map (λ (job : JobParts). output_wires job.circuit) jobs
