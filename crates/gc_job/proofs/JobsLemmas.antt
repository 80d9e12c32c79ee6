-- Jobs of a list, one after another.
use Rattle.gc_job.proofs.Names.{◌≡◌, ℕ, zero, suc, ◌+◌, inl, Bool, List, [], ◌∷◌, ◌++◌, length, take, slice_get, slice_get_within, get_or, get_or_from_slice_get, Option, Some, None, Ok, Err, refl, ◌∙◌, arith, output_wires, JobParts, IsEvaluated, EvalFault, BadWorkers, UnknownOutputLabel, Memory, ◌⊎◌, ⊎_elim, IfSome, Vec, length-append, map-append, map_more, length-take, ◌<◌, slice_get-get_or, AreBitsOf, AreEvaluated, EvaluateTo}
use Rattle.gc_job.proofs.TakeLemmas.{slice_get-take, slice_get_taken}

-- an element of a list that one was pushed to
pushed : {X : Type 0} (xs : List X) (x y : X) (k : ℕ) → slice_get (xs ++ x ∷ []) k ≡ Some y
    → (slice_get xs k ≡ Some y) ⊎ ((k ≡ length xs) × (x ≡ y))
pushed [] x y zero h = grind arith
pushed [] x y (suc k) h = absurd (cc)
pushed (a ∷ xs) x y zero h = inl h
pushed (a ∷ xs) x y (suc k) h = grind (arith, pushed xs x y k h)

-- one job more
pub evaluated_more : (jobs : List JobParts) (outputs : List (List Bool)) (n : ℕ) (job : JobParts)
    (bits : List Bool)
    → slice_get jobs n ≡ Some job → IsEvaluated job (Ok bits)
    → length bits ≡ output_wires job.circuit → AreEvaluated (take n jobs) outputs
    → AreEvaluated (take (n + 1) jobs) (outputs ++ bits ∷ [])
evaluated_more jobs outputs n job bits at is long before =
    let within = slice_get_within jobs n job at in
    let count : length outputs ≡ n = omega (arith, before.count, length-take n jobs) in
    record {
      count = omega (arith, length-append outputs (bits ∷ []), length-take (n + 1) jobs);
      lengths = rw (
        map-append length outputs (bits ∷ []),
        before.lengths,
        long,
        map_more (λ (j : JobParts). output_wires j.circuit) jobs n job within,
        get_or_from_slice_get jobs n job job at,
      ) refl;
      each = λ k other found other_at found_at.
          let there = slice_get_taken (n + 1) k jobs other other_at in ⊎_elim
          (λ here. before.each k other found (slice_get-take n k jobs
          (omega (arith, slice_get_within outputs k found here)) ∙ there.1) here)
          (λ last. let same : job ≡ other = cc (there.1) in rw (← same, ← last.1) is)
          (pushed outputs bits found k found_at);
    }

-- The fault of a job's evaluation is that of the list.
pub job_fault : (jobs : List JobParts) (outputs : List (List Bool)) (n : ℕ) (job : JobParts)
    (fault : EvalFault)
    → slice_get jobs n ≡ Some job → IsEvaluated job (Err fault)
    → AreEvaluated (take n jobs) outputs → EvaluateTo jobs (Err fault)
job_fault jobs outputs n job (UnknownOutputLabel output) at is before = record {
  place = n;
  job = job;
  at = at;
  unknown = is;
  before = λ k other below other_at.
      let within = slice_get_within jobs n job at in
      let room : k < length outputs = omega (arith, before.count, length-take n jobs) in (
        get_or outputs k [],
        before.each k other _ (slice_get-take n k jobs below ∙ other_at)
            (slice_get-get_or outputs k [] room),
      );
}
job_fault jobs outputs n job Memory at is before = tt
job_fault jobs outputs n job BadWorkers at is before = absurd is.decoding

-- What holds of a result holds of what follows from it.
pub if_some : {X : Type 0} (P Q : X → Type 0) (o : Option X) → ((x : X) → P x → Q x) → IfSome o P
    → IfSome o Q
if_some P Q None follows is = tt
if_some P Q (Some x) follows is = follows x is

-- The bits that a job is evaluated to, if any, are those of the job at its place.
pub bits_at : {B : Type 0} (jobs : List JobParts) (k : ℕ) (job : JobParts)
    (found : Option (Vec Bool B))
    → slice_get jobs k ≡ Some job → IfSome found (λ bits. IsEvaluated job (Ok bits.items))
    → IfSome found (λ bits. AreBitsOf jobs k bits.items)
bits_at jobs k job None at is = tt
bits_at jobs k job (Some bits) at is =
    λ other other_at. let same : job ≡ other = cc in rw (← same) is
