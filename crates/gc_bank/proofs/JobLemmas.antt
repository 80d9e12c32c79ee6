-- Jobs of a list.
use Rattle.gc_bank.proofs.Names.{◌≡◌, ℕ, zero, suc, ◌+◌, ◌<◌, ◌∙◌, List, [], ◌∷◌, Bool, Vec, Option, Some, map, take, slice_get, refl, sym, ap, length, arith, Netlist, JobParts, AreBitsOf, AreKnown}
use Rattle.std.proofs.Common.{drop}
use Rattle.std.proofs.lemmas.List.{map-id}
use Rattle.gc_job.proofs.JobsLemmas.{if_some}
use Rattle.gc_job.proofs.TakeLemmas.{slice_get-take, slice_get_taken}
use Rattle.gc_bank.specs.Jobs.{AreOn, AreOnOneCircuit}
use Rattle.gc_bank.specs.Workers.{AreKnownFrom}

-- one job more on the circuit
pub on_more : (c : Netlist) (jobs : List JobParts) (n : ℕ) (job : JobParts)
    → slice_get jobs n ≡ Some job → job.circuit ≡ c → AreOn c jobs n → AreOn c jobs (n + 1)
on_more c jobs n job at on before k other below is = grind (arith, before k other)

slice_get-drop : {X : Type 0} (n k : ℕ) (xs : List X) → slice_get (drop n xs) k ≡ slice_get xs (n + k)
slice_get-drop zero k xs =
    let same : k ≡ 0 + k = omega arith in ap (λ i. slice_get xs i) same
slice_get-drop (suc n) k [] = refl
slice_get-drop (suc n) k (x ∷ xs) =
    let next : suc (n + k) ≡ suc n + k = omega arith in
    slice_get-drop n k xs ∙ ap (λ i. slice_get (x ∷ xs) i) next

-- The jobs of a part of the list are on one circuit too,
module _ (jobs : List JobParts) (start n : ℕ) where
  abbrev part : List JobParts
  part = map (λ job. job) (take n (drop start jobs))

  at_part : (k : ℕ) (job : JobParts) → slice_get part k ≡ Some job
      → (k < n) × (slice_get jobs (start + k) ≡ Some job)
  at_part k job at =
      let taken = slice_get_taken n k (drop start jobs) job
      (rw (map-id (take n (drop start jobs))) at at) in
      (taken.0, sym (slice_get-drop start k jobs) ∙ taken.1)

  pub part_one : AreOnOneCircuit jobs → AreOnOneCircuit part
  part_one one i k a b a_at b_at =
      one (start + i) (start + k) a b (at_part i a a_at).1 (at_part k b b_at).1

  -- and what is known of its jobs is known of them in the list.
  pub known_from_part : {B : Type 0} (share : List (Option (Vec Bool B))) → length share ≡ n
      → AreKnown part share → AreKnownFrom jobs start share
  known_from_part share count known k d below =
      if_some _ (λ (v : Vec Bool _). AreBitsOf jobs (start + k) v.items) _
      (λ v is job at. is job (rw (map-id (take n (drop start jobs)))
      (slice_get-take n k (drop start jobs) (omega (arith, count, below))
      ∙ slice_get-drop start k jobs ∙ at))) (known k d below)
