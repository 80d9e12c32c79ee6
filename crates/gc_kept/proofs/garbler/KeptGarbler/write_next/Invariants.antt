use Rattle.gc_kept.proofs.Names.{◌-◌, ◌*◌, ◌≤◌, length, and_count, MakesPiece}
use Rattle.gc_kept.proofs.garbler.KeptGarbler.write_next.Given as goal

abbrev pub invariant-loop-rows : goal.invariant-loop-rows
invariant-loop-rows l = record {
  makes : MakesPiece l.fn.self l.self l.fn.buffer l.buffer l.done;
  within : l.done ≤ length l.buffer;
  few : l.done ≤ 32 * (and_count l.fn.self.circuit - l.fn.self.garbler.made);
}

abbrev pub decreases-loop-rows : goal.decreases-loop-rows
decreases-loop-rows l = length l.buffer - l.done
