use Rattle.gc_store.proofs.Names.{◌≡◌, map, range_with_len, opening_countdown}
use Rattle.gc_store.proofs.tables.opening_countdowns.Given as goal

abbrev pub invariant-loop-i : goal.invariant-loop-i
invariant-loop-i g l = l.countdowns.items ≡ map (opening_countdown l.circuit) (range_with_len 0 l.i)
