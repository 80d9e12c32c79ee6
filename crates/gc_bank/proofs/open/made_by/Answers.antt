use Rattle.gc_bank.proofs.Names.{arith, ap, length, BankSeat}
use Rattle.gc_bank.proofs.RoundLemmas.{total_taken}
use Rattle.gc_bank.proofs.open.made_by.Goals as goal

pub loop-seat-preserved : goal.loop-seat-preserved
loop-seat-preserved g c =
    let seat = c.seat-item.result in
    let made = λ (s : BankSeat _ _ _). length s.place.me.0.inner.made in
    let taken = total_taken made c.args.seats.now c.loop-seat.seat-index seat (omega arith) in
    omega (arith, ap made c.seat-item.is, seat.counted)
