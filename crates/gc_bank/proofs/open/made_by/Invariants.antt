use Rattle.gc_bank.proofs.Names.{◌≡◌, ◌-◌, ◌^◌, length, min, take, total, BankSeat}
use Rattle.gc_bank.proofs.open.made_by.Given as goal

abbrev pub invariant-loop-seat : goal.invariant-loop-seat
invariant-loop-seat g l =
    l.made ≡ min (total (λ (s : BankSeat _ _ _). length s.place.me.0.inner.made)
    (take l.seat-index l.seats))
    (2 ^ 64 - 1)
