use Rattle.gc_kept.proofs.Names.{◌+◌, ◌*◌, take, AllZip, IsGarblingUnder}
use Rattle.gc_kept.proofs.circuit.KeptCircuit.garble_many.Given as goal

abbrev pub invariant-loop-i : goal.invariant-loop-i
invariant-loop-i l = AllZip (IsGarblingUnder l.self) (take (2 * l.i) l.seeds) l.made.items

abbrev pub invariant-loop-seed : goal.invariant-loop-seed
invariant-loop-seed l =
    AllZip (IsGarblingUnder l.self) (take (2 * l.pairs + l.seed-index) l.seeds) l.made.items
