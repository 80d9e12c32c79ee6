use Rattle.gc_half.proofs.Names.{◌≡◌, hash, numbered_from, AreGarbled}
use Rattle.gc_half.proofs.two.garble_both.Given as goal

abbrev pub invariant-loop-i : goal.invariant-loop-i
invariant-loop-i g l = record {
  offset : l.one.offset ≡ l.fn.one.offset;
  other_offset : l.other.offset ≡ l.fn.other.offset;
  one : AreGarbled (numbered_from 0 hash) l.fn.one.offset l.circuit l.fn.one.labels.items l.i
      l.one.labels.items l.one.rows.items;
  other : AreGarbled (numbered_from 0 hash) l.fn.other.offset l.circuit
      l.fn.other.labels.items l.i l.other.labels.items l.other.rows.items;
}
