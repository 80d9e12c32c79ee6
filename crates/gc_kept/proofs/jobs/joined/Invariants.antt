use Rattle.std.proofs.Common.{◌≡◌, flat_map, map, take}
use Rattle.gc_kept.proofs.jobs.joined.Given as goal

abbrev pub invariant-loop-list : goal.invariant-loop-list
invariant-loop-list l =
    l.bits.items ≡ flat_map (λ list. list) (map (λ list. list.items) (take l.list-index l.lists))
