use Rattle.gc_job.proofs.Names.{take, AreInOrder, ArePlaces}
use Rattle.gc_job.proofs.bind.places_of.Given as goal

abbrev pub invariant-loop-i : goal.invariant-loop-i
invariant-loop-i g l = record {
  in_order : AreInOrder l.widths l.files l.i;
  marked : ArePlaces (take l.i l.files) l.places;
}
