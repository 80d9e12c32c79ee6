use Rattle.gc_eval.proofs.Names.{◌-◌, ◌≡◌, ◌+◌, ◌<◌, [], length, All, IsPlaceInside, one_round, gates_of, IsNew, EvalSeat}
use Rattle.gc_eval.proofs.open.deal_all.Given as goal

abbrev pub invariant-loop-left : goal.invariant-loop-left
invariant-loop-left g l =
    IsPlaceInside one_round gates_of l.words.table_id l.words.key l.first 0 × IsNew l.first.me.0
    × (l.first.me.1 ≡ []) × (l.first.me.0.seats ≡ l.left) × (0 < l.left)
    × (length l.seats.items + l.left ≡ l.count)
    × All (λ (s : EvalSeat _ _).
    IsPlaceInside one_round gates_of l.words.table_id l.words.key s.place 0
    × IsNew s.place.me.0) l.seats.items

abbrev pub decreases-loop-left : goal.decreases-loop-left
decreases-loop-left g l = l.left - 1
