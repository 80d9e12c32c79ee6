use Rattle.gc_circuit.proofs.Names.{◌≡◌, ℕ, ◌<◌, slice_index_or, false, true}
use Rattle.gc_circuit.proofs.read.first_unset.Given as goal

abbrev pub invariant-loop-i : goal.invariant-loop-i
invariant-loop-i l = (v : ℕ) → v < l.i → slice_index_or l.is_set v false ≡ true
