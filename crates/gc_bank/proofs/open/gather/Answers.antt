use Rattle.gc_bank.proofs.Names.{ℕ, ◌≡◌, arith, ap, Outside, pairs, all_but_last, all_last, total_last, length_last, pairs_merged, Seen, BankSeat}
use Rattle.gc_bank.proofs.RoundLemmas.{IsAt, place_of}
use Rattle.gc_steps.proofs.RunLemmas.{still_in}
use Rattle.gc_bank.proofs.open.gather.Goals as goal

pub loop-seat-init : goal.loop-seat-init
loop-seat-init g c =
    let Own : BankSeat _ _ _ → Type 0 = IsAt c.args.words.now.table_id c.args.words.now.key in
    let Out : BankSeat _ _ _ → Type 0 = λ s. s.place.me.0.position ≡ Outside in
    let made = λ (r gate : ℕ) (s : BankSeat _ _ _). pairs r gate s.place.me.0.inner.made in
    let is = c.in-Some.ensures.items in (
      all_last _ _ _ is Own c.requires.own,
      all_but_last _ _ _ is Own c.requires.own,
      all_but_last _ _ _ is Out c.requires.outside,
      omega (arith, length_last _ _ _ is, c.in-Some.last.at_rest.2),
      λ r gate. omega (arith, total_last _ _ _ is (made r gate)),
    )

pub join_place-requires-clause-other : goal.join_place-requires-clause-other
join_place-requires-clause-other g c =
    let Own : BankSeat _ _ _ → Type 0 = IsAt c.args.words.now.table_id c.args.words.now.key in
    place_of (all_last _ _ _ c.in-Some-pop.ensures.items Own c.loop-seat.invariant.1)

pub join_place-requires-clause-idle : goal.join_place-requires-clause-idle
join_place-requires-clause-idle g c =
    let Out : BankSeat _ _ _ → Type 0 = λ s. s.place.me.0.position ≡ Outside in
    let seat = c.in-Some-pop.seat in (
      all_last _ _ _ c.in-Some-pop.ensures.items Out c.loop-seat.invariant.2,
      seat.at_rest.0,
      seat.at_rest.1,
    )

pub loop-seat-preserved : goal.loop-seat-preserved
loop-seat-preserved g c =
    let Own : BankSeat _ _ _ → Type 0 = IsAt c.args.words.now.table_id c.args.words.now.key in
    let Out : BankSeat _ _ _ → Type 0 = λ s. s.place.me.0.position ≡ Outside in
    let is = c.in-Some-pop.ensures.items in
    let kept = c.join_place.ensures in
    let seats = ap (λ (u : Seen). u.seats) kept.1 in
    let seat = c.in-Some-pop.seat in
    let made = λ (r gate : ℕ) (s : BankSeat _ _ _). pairs r gate s.place.me.0.inner.made in
    let i = c.loop-seat.invariant in (
      still_in i.0 kept.0 (rw kept.1) (rw kept.1) (rw kept.1),
      all_but_last _ _ _ is Own i.1,
      all_but_last _ _ _ is Out i.2,
      omega (arith, length_last _ _ _ is, seat.at_rest.2, i.3, seats),
      λ r gate.
          let both = pairs_merged c.loop-seat.whole.me.0 seat.place.me.0 _ r gate kept.1 in
          omega (arith, total_last _ _ _ is (made r gate), i.4 r gate),
    )
