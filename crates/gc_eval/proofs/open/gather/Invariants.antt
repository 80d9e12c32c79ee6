use Rattle.gc_eval.proofs.Names.{◌≡◌, ℕ, ◌+◌, length, All, total, pairs, IsGatePlace, IsPlaceInside, one_round, gates_of, EvalSeat}
use Rattle.gc_eval.proofs.open.gather.Given as goal

abbrev pub invariant-loop-place : goal.invariant-loop-place
invariant-loop-place g l =
    IsGatePlace one_round gates_of l.words.table_id l.words.key l.whole
    × All (λ (s : EvalSeat _ _).
    IsPlaceInside one_round gates_of l.words.table_id l.words.key s.place 0)
    l.seats.items
    × (l.whole.me.0.seats + length l.seats.items ≡ length l.fn.seats.items)
    × ((r g' : ℕ) → pairs r g' l.whole.me.0.inner.made + total
    (λ (s : EvalSeat _ _). pairs r g' s.place.me.0.inner.made) l.seats.items
    ≡ total (λ (s : EvalSeat _ _). pairs r g' s.place.me.0.inner.made) l.fn.seats.items)

abbrev pub decreases-loop-place : goal.decreases-loop-place
decreases-loop-place g l = goal.left-loop-place g l
