use Rattle.halfgates_c.proofs.Names.{◌≡◌, ◌++◌, List, length, AllZip, into_iter_items, into_iter_len, Slot, HoldsThis}
use Rattle.halfgates_c.proofs.many.handles_of.Given as goal

abbrev pub invariant-loop-garbling : goal.invariant-loop-garbling
invariant-loop-garbling l = record {
  can : (goal.iterator-loop-garbling).can_next l.garbling-iterator;
  finite : (goal.iterator-loop-garbling).is_finite l.garbling-iterator;
  len : into_iter_len l.garbling-iterator ≡ length (into_iter_items l.garbling-iterator);
  held : (more : List Slot) → AllZip HoldsThis (into_iter_items l.garbling-iterator) more
      → AllZip HoldsThis l.fn.garblings.items (l.handles.items ++ more);
}
