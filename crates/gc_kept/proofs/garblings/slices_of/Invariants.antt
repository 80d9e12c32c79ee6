use Rattle.std.proofs.Common.{◌≡◌, map, take}
use Rattle.gc_kept.proofs.garblings.slices_of.Given as goal

abbrev pub invariant-loop-vector : goal.invariant-loop-vector
invariant-loop-vector l =
    map (λ s. s.now) l.slices.items ≡ map (λ v. v.items) (take l.vector-index l.vectors)
