use Rattle.gc_bank.proofs.Names.{two_banks, ◌≡◌, ℕ, ◌+◌, length, All, total, Outside, pairs, IsGatePlace, gates_of_each, BankSeat}
use Rattle.gc_bank.proofs.RoundLemmas.{IsAt}
use Rattle.gc_bank.proofs.open.gather.Given as goal

abbrev pub invariant-loop-seat : goal.invariant-loop-seat
invariant-loop-seat g l =
    IsGatePlace two_banks gates_of_each l.words.table_id l.words.key l.whole
    × All (IsAt l.words.table_id l.words.key) l.seats.items
    × All (λ (s : BankSeat _ _ _). s.place.me.0.position ≡ Outside) l.seats.items
    × (l.whole.me.0.seats + length l.seats.items ≡ length l.fn.seats.items)
    × ((r g' : ℕ) → pairs r g' l.whole.me.0.inner.made
    + total (λ (s : BankSeat _ _ _). pairs r g' s.place.me.0.inner.made) l.seats.items
    ≡ total (λ (s : BankSeat _ _ _). pairs r g' s.place.me.0.inner.made) l.fn.seats.items)

abbrev pub decreases-loop-seat : goal.decreases-loop-seat
decreases-loop-seat g l = goal.left-loop-seat g l
