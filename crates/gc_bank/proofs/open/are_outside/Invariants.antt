use Rattle.gc_bank.proofs.Names.{◌≡◌, ℕ, ◌<◌, get_or, Outside, BankSeat}
use Rattle.gc_bank.proofs.open.are_outside.Given as goal

abbrev pub invariant-loop-seat : goal.invariant-loop-seat
invariant-loop-seat g l =
    (k : ℕ) (d : BankSeat _ _ _) → k < l.seat-index
    → (get_or l.seats k d).place.me.0.position ≡ Outside
