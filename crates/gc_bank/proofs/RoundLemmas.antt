-- Rounds with their jobs, and the seats of banks.
use Rattle.gc_bank.proofs.Names.{◌≡◌, ℕ, ◌+◌, ◌<◌, List, [], ◌∷◌, refl, ap, ◌∙◌, subst, arith, sym, slice_get, get_or, length, length-append, Some, MatchOption, take, Netlist, total, total-append, Key, Inside, JobParts, IsRound, InRound, round_in, IsGatePlace, Seen, BankSeat}
use Rattle.std.proofs.lemmas.List.{take_more}
use Rattle.atomic_table.specs.Seated.{TableId}
use Rattle.atomic_table.specs.declared.shared.Seat.{Seat}
use Rattle.gc_rounds.specs.Places.{IsPlaceOf}
use Rattle.gc_gates.specs.Layout.{two_banks}
use Rattle.gc_steps.specs.declared.answer.Answer.{Answer}
use Rattle.gc_steps.specs.declared.answer.Answer.TheVariants.{Made, Done, Taken, NotYet}
use Rattle.gc_steps.specs.Walks.{made_now}
use Rattle.gc_steps.specs.Views.{made_after}
use Rattle.gc_bank.specs.Rounds.{gates_of_each}

-- The seat is one of these banks'.
abbrev pub IsAt : {A B C : Type 0} → TableId → Key (List JobParts) → BankSeat A B C → Type 0
IsAt table key s = IsGatePlace two_banks gates_of_each table key s.place

-- a seat of the banks is one of their table
pub place_of : {S : Type 0} {table : TableId} {key : Key (List JobParts)} {seat : Seat S Seen}
    → IsGatePlace two_banks gates_of_each table key seat → IsPlaceOf table key seat
place_of p = record {
  fits = record { words = omega (arith, p.words); slots = p.slots };
  table_id = p.table_id;
  jobs = p.jobs;
  whole = p.whole;
}

-- one term more of a sum
pub total_taken : {X : Type 0} (f : X → ℕ) (xs : List X) (k : ℕ) (d : X) → k < length xs
    → total f (take (k + 1) xs) ≡ total f (take k xs) + f (get_or xs k d)
total_taken f xs k d below =
    rw (take_more xs k d below) (omega (arith, total-append f (take k xs) (get_or xs k d ∷ [])))

-- the job at a place is that of its round, where all are on one circuit
pub is_round : (jobs : List JobParts) (c : Netlist) (r : ℕ) (job : JobParts)
    → ((k : ℕ) (other : JobParts) → slice_get jobs k ≡ Some other → other.circuit ≡ c)
    → slice_get jobs r ≡ Some job → IsRound jobs r job
is_round [] c r job on there = absurd (cc)
is_round (first ∷ rest) c r job on there = record {
  at = there;
  gates = ap (λ (n : Netlist). length n.gates) (on r job there ∙ sym (on 0 first refl));
}

-- The round that a seat is inside, and its job.
pub in_round : (jobs : List JobParts) (v : Seen) (r : ℕ) (job : JobParts)
    (P : ℕ → JobParts → Type 0) → v.position ≡ Inside r → slice_get jobs r ≡ Some job → P r job
    → InRound jobs v (P (round_in v.position))
in_round jobs v r job P inside there p =
    subst (λ k. MatchOption (slice_get jobs k) ⊥ (P k)) (sym (ap round_in inside))
    (subst (λ o. MatchOption o ⊥ (P r)) (sym there) p)

-- a result makes a made list longer by one gate, where it is Made
length_after : (r g : ℕ) (l : List (ℕ × ℕ)) (x : Answer)
    → length (made_after r g l x) ≡ length l + made_now x
length_after r g l (Made label) = length-append l ((r, g) ∷ [])
length_after r g l (Done label) = omega arith
length_after r g l Taken = omega arith
length_after r g l (NotYet w) = omega arith

-- four results make it longer by the gates that they made
pub four_counted : (r a b c d : ℕ) (l new : List (ℕ × ℕ)) (x : Answer × Answer × Answer × Answer)
    → new ≡ made_after r d (made_after r c (made_after r b (made_after r a l x.0) x.1) x.2) x.3
    → length new ≡ length l + made_now x.0 + made_now x.1 + made_now x.2 + made_now x.3
four_counted r a b c d l new x is = rw is (simp length_after)
