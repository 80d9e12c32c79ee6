use Rattle.gc_circuit.proofs.Names.{◌≡◌, map, take, length}
use Rattle.gc_circuit.proofs.eval.fits.Given as goal

abbrev pub invariant-loop-i : goal.invariant-loop-i
invariant-loop-i g l = map length (map (λ v. v.items) (take l.i l.values)) ≡ take l.i l.widths
