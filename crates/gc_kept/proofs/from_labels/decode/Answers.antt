use Rattle.std.proofs.Common.{◌≡◌, length, sym, arith}
use Rattle.gc_kept.proofs.PieceLemmas.{length_labels, length-decoded}
use Rattle.gc_kept.proofs.from_labels.decode.Goals.{After-deref-2}
use Rattle.gc_kept.proofs.from_labels.decode.Goals as goal

-- There are as many labels as decode bits.
many : (c : After-deref-2) → length c.deref.result.now ≡ length c.deref-2.result.now
many c =
    let count = c.in_ok-decode_bits.ensures.count in
    let bytes = c.in-Ok.ensures.bytes in
    grind (arith, length_labels)

pub decoded-requires : goal.decoded-requires
decoded-requires c = many (goal.at.decoded-requires c).After-deref-2

pub write_bits-requires : goal.write_bits-requires
write_bits-requires c =
    let room = c.in_ok-has_room.ensures.ok in
    let count = c.in_ok-decode_bits.ensures.count in
    let same = many (goal.at.write_bits-requires c).After-deref-2 in
    let long = rw (← c.in-Ok-decoded.ensures) at (length-decoded _ _ same) in
    grind arith

pub returns-clause-ok : goal.returns-clause-ok
returns-clause-ok c = record {
  active = c.in-Ok.labels.items;
  labels_are = record { spelled = sym c.in-Ok.ensures.bytes; each = c.in-Ok.ensures.labels };
  bits = c.in_ok-decode_bits.decode_bits.items;
  decode_bits_are = c.in_ok-decode_bits.ensures.bytes;
  count = rw (c.deref.ensures.value, c.deref-2.ensures.value) at
      (many (goal.at.returns-clause-ok c).After-deref-2);
  buffer = rw (
    c.deref-3.ensures.value,
    c.in-Ok-decoded.ensures,
    c.deref.ensures.value,
    c.deref-2.ensures.value,
  ) at c.write_bits.ensures;
}
