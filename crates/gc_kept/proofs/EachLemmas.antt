-- The outcomes of a list of jobs.
use Rattle.gc_kept.proofs.Names.{◌≡◌, ℕ, zero, suc, ◌+◌, ◌-◌, ◌<◌, ◌≤◌, ◌⊎◌, inl, inr, Bool, List, [], ◌∷◌, ◌++◌, Option, Vec, IfSome, Result, length, take, drop, set, slice_get, Some, sym, ap, ◌∙◌, arith, cases_eq, drop-drop, drop-take, get_or-set_other, get_or-set_same, length-set, take-take, slice_get_within, put_mid, output_wires, JobParts, AreBitsOf, AreKnown, KeptFault, IsOutcome, part_for, outputs_of}
use Rattle.std.proofs.lemmas.Slice.{between-put_mid, drop-put_mid, take-put_mid_below}
use Rattle.gc_job.proofs.TakeLemmas.{slice_get-take}
use Rattle.gc_kept.proofs.JobsLemmas.{outputs_within}

abbrev Outcome : Type 0
Outcome = Result (Unit {0}) KeptFault

-- The last of a list, or one before it.
pushed_at : {X : Type 0} (xs : List X) (x y : X) (i : ℕ) → slice_get (xs ++ x ∷ []) i ≡ Some y
    → (slice_get xs i ≡ Some y) ⊎ ((i ≡ length xs) × (x ≡ y))
pushed_at [] x y zero at = grind arith
pushed_at [] x y (suc i) at = absurd (cc)
pushed_at (z ∷ xs) x y zero at = inl at
pushed_at (z ∷ xs) x y (suc i) at = grind (arith, pushed_at xs x y i at)

-- An earlier part stays as it was.
part_before : (a k s n : ℕ) (xs ys : List ℕ) → s + n ≤ a → a ≤ length xs
    → take n (drop s (put_mid a k xs ys)) ≡ take n (drop s xs)
part_before a k s n xs ys before within =
    rw (← drop-take s n (put_mid a k xs ys), take-put_mid_below a k xs ys (s + n) before within)
    (drop-take s n xs)

-- The bits at one more place are known, or there are none.
pub known_set : {B : Type 0} (jobs : List JobParts) (known : List (Option (Vec Bool B))) (i : ℕ)
    (x : Option (Vec Bool B)) → i < length known → AreKnown jobs known
    → IfSome x (λ bits. AreBitsOf jobs i bits.items) → AreKnown jobs (set known i x)
known_set jobs known i x within are is k d below = elim (cases_eq k i) [
  | inl same ↦ rw (same, get_or-set_same known i x d within) is
  | inr other ↦ rw (get_or-set_other known i k x d other) (are k d (rw length-set at below))
]

module _ (jobs : List JobParts) where
  -- The parts of earlier jobs end before that of a job.
  part_ends : (k i : ℕ) (job : JobParts) → k < i → slice_get jobs k ≡ Some job
      → outputs_of (take k jobs) + output_wires job.circuit ≤ outputs_of (take i jobs)
  part_ends k i job before at =
      rw (take-take k i jobs (omega arith)) at
      (outputs_within (take i jobs) k job (slice_get-take i k jobs before ∙ at))

  module _ (old before part : List ℕ) (i place n : ℕ) (job : JobParts) (outcome : Outcome)
      (outcomes : List Outcome) (at : slice_get jobs i ≡ Some job) (count : length outcomes ≡ i)
      (place_is : place ≡ outputs_of (take i jobs)) (size : n ≡ output_wires job.circuit)
      (room : place + n ≤ length before) (long : length part ≡ n)
      (rest : drop place before ≡ drop place old)
      (is : IsOutcome job (take n (drop place before)) part outcome)
      (each : (k : ℕ) (j : JobParts) (o : Outcome) → slice_get jobs k ≡ Some j
      → slice_get outcomes k ≡ Some o
      → IsOutcome j (part_for jobs k j old) (part_for jobs k j before) o) where
    abbrev after : List ℕ
    after = put_mid place n before part

    outcome_next : (k : ℕ) (j : JobParts) (o : Outcome) → slice_get jobs k ≡ Some j
        → slice_get (outcomes ++ outcome ∷ []) k ≡ Some o
        → IsOutcome j (part_for jobs k j old) (part_for jobs k j after) o
    outcome_next k j o j_at o_at = elim (pushed_at outcomes outcome o k o_at) [
      | inl earlier ↦
          let below : k < i = omega (arith, slice_get_within outcomes k o earlier) in
          let ends = part_ends k i j below j_at in
          rw (part_before place n (outputs_of (take k jobs)) (output_wires j.circuit) before part
          (omega arith) (omega arith)) (each k j o j_at earlier)
      | inr last ↦
          let k_is : k ≡ i = last.0 ∙ count in
          let job_is : job ≡ j = cc in
          let here : place + n - place ≡ n = omega arith in
          let back = between-put_mid place n before part (place + n) (omega arith) (omega arith) in
          let new_part : take n (drop place after) ≡ part = rw here at back in
          rw (k_is, ← job_is, ← place_is, ← size, ← rest, new_part, ← last.1) is
    ]

    -- One more job has its outcome, and what comes after is as it was.
    pub one_more_outcome : ((k : ℕ) (j : JobParts) (o : Outcome) → slice_get jobs k ≡ Some j
        → slice_get (outcomes ++ outcome ∷ []) k ≡ Some o
        → IsOutcome j (part_for jobs k j old) (part_for jobs k j after) o)
        × (drop (place + n) after ≡ drop (place + n) old)
    one_more_outcome = (
      outcome_next,
      drop-put_mid place n before part (place + n) (omega arith) (omega arith) long
          ∙ sym (drop-drop n place before) ∙ ap (drop n) rest ∙ drop-drop n place old,
    )
