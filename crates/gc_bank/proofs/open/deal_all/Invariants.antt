use Rattle.gc_bank.proofs.Names.{two_banks, ◌-◌, ◌≡◌, ◌+◌, ◌<◌, [], length, All, IsGatePlace, gates_of_each, IsNew, BankSeat}
use Rattle.gc_bank.proofs.open.deal_all.Given as goal

abbrev pub invariant-loop-left : goal.invariant-loop-left
invariant-loop-left g l =
    IsGatePlace two_banks gates_of_each l.words.table_id l.words.key l.first × IsNew l.first.me.0
    × (l.first.me.1 ≡ []) × (l.first.me.0.seats ≡ l.left) × (0 < l.left)
    × (length l.seats.items + l.left ≡ l.count)
    × All (λ (s : BankSeat _ _ _).
    IsGatePlace two_banks gates_of_each l.words.table_id l.words.key s.place
    × IsNew s.place.me.0) l.seats.items

abbrev pub decreases-loop-left : goal.decreases-loop-left
decreases-loop-left g l = l.left - 1
