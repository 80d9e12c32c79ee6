use Rattle.gc_half.proofs.Names.{◌≡◌, ℕ, ◌-◌, [], List, and_count, take, AreCompared, IsGarbledSoFar}
use Rattle.gc_half.specs.Streaming.{IsGarblerOf}
use Rattle.gc_half.proofs.compare.replace_all.Given as goal

abbrev pub invariant-loop-piece : goal.invariant-loop-piece
invariant-loop-piece g l = record {
  begun : IsGarblerOf l.circuit l.garbler;
  offset : l.garbler.offset ≡ l.fn.garbler.offset;
  numbered : l.garbler.first ≡ l.fn.garbler.first;
  so_far : (given : List ℕ) → IsGarbledSoFar l.circuit given [] l.fn.garbler
      → IsGarbledSoFar l.circuit given (take l.garbler.made l.rows) l.garbler;
  compared : AreCompared l.fn.rows l.garbler.made l.rows l.first;
}

abbrev pub decreases-loop-piece : goal.decreases-loop-piece
decreases-loop-piece g l = and_count l.circuit - l.garbler.made
