use Rattle.gc_eval.proofs.Names.{ℕ, ap, arith, pairs, Seen, IsPlaceInside, one_round, gates_of, EvalSeat, all_but_last, all_last, total_last, length_last, pairs_merged}
use Rattle.gc_steps.proofs.RunLemmas.{still_in}
use Rattle.gc_eval.proofs.open.gather.Goals as goal

pub loop-place-init : goal.loop-place-init
loop-place-init g c =
    let Own : EvalSeat _ _ → Type 0 =
    λ s. IsPlaceInside one_round gates_of c.args.words.now.table_id c.args.words.now.key s.place
    0 in
    let made = λ (r gate : ℕ) (s : EvalSeat _ _). pairs r gate s.place.me.0.inner.made in
    let is = c.in-Some.ensures.items in (
      (all_last _ _ _ is Own c.requires.own).place,
      all_but_last _ _ _ is Own c.requires.own,
      omega (arith, length_last _ _ _ is, c.in-Some.field-0.at_rest.2),
      λ r gate. omega (arith, total_last _ _ _ is (made r gate)),
    )

pub join_seat-requires-clause-other : goal.join_seat-requires-clause-other
join_seat-requires-clause-other g c =
    let Own : EvalSeat _ _ → Type 0 =
    λ s. IsPlaceInside one_round gates_of c.args.words.now.table_id c.args.words.now.key s.place
    0 in
    (all_last _ _ _ c.in-Some-pop.ensures.items Own c.loop-place.invariant.1).place

pub loop-place-preserved : goal.loop-place-preserved
loop-place-preserved g c =
    let Own : EvalSeat _ _ → Type 0 =
    λ s. IsPlaceInside one_round gates_of c.args.words.now.table_id c.args.words.now.key s.place
    0 in
    let is = c.in-Some-pop.ensures.items in
    let kept = c.join_seat.ensures in
    let seats = ap (λ (u : Seen). u.seats) kept.1 in
    let seat = c.in-Some-pop.field-0 in
    let made = λ (r gate : ℕ) (s : EvalSeat _ _). pairs r gate s.place.me.0.inner.made in
    let i = c.loop-place.invariant in (
      still_in i.0 kept.0 (rw kept.1) (rw kept.1) (rw kept.1),
      all_but_last _ _ _ is Own i.1,
      omega (arith, length_last _ _ _ is, seat.at_rest.2, i.2, seats),
      λ r gate.
          let both = pairs_merged c.loop-place.whole.me.0 seat.place.me.0 _ r gate kept.1 in
          omega (arith, total_last _ _ _ is (made r gate), i.3 r gate),
    )
