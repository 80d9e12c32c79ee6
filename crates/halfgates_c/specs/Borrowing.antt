-- What a call borrows from C.
use Rattle.halfgates_c.specs.declared.borrow.Borrow.{Borrow}
use Rattle.gc_kept.specs.declared.held.Held.{Held}
use Rattle.halfgates_c.specs.declared.handle.Handle.{Handle}

-- C's pointer with this right to read.
unfoldable pub handle_of : Borrow Held → Handle
handle_of borrow = record {
  at = borrow.at;
  held = borrow.value;
  round = borrow.round;
  parts = borrow.parts;
}
