use Rattle.gc_half.proofs.Names.{◌≡◌, ◌+◌, ◌++◌, List, take, RowPair, AreCompared}
use Rattle.gc_half.proofs.compare.replace.Given as goal

abbrev pub invariant-loop-i : goal.invariant-loop-i
invariant-loop-i l = record {
  made : take (l.from + l.i) l.rows ≡ take l.from l.fn.rows ++ take l.i l.piece;
  compared : (given : List RowPair) → AreCompared given l.from l.fn.rows l.fn.first
      → AreCompared given (l.from + l.i) l.rows l.first;
}
