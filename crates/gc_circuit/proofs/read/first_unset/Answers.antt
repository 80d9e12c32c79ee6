use Rattle.gc_circuit.proofs.Names.{◌≡◌, ℕ, suc, ◌<◌, List, [], ◌∷◌, length, slice_index_or, Bool, true, false, refl, arith, list_all}
use Rattle.gc_circuit.proofs.read.first_unset.Goals as goal

-- Where each mark is set, all are.
each_set : (marks : List Bool) →
    ((v : ℕ) → v < length marks → slice_index_or marks v false ≡ true) →
    list_all (λ b. b) marks ≡ true
each_set [] each = refl
each_set (b ∷ marks) each =
    rw (each 0 (omega arith)) (each_set marks (λ v below. each (suc v) (omega arith)))

pub unreachable-requires : goal.unreachable-requires
unreachable-requires c =
    let all = each_set c.args.is_set.now (λ v below. c.loop-i.invariant v (omega arith)) in
    cc (all, c.requires)
