use Rattle.std.proofs.Common.{◌≡◌, length, sym, ap, arith}
use Rattle.gc_kept.proofs.PieceLemmas.{length_labels}
use Rattle.gc_kept.proofs.circuit.KeptCircuit.label_file.Goals as goal

pub write_file-requires-clause-room : goal.write_file-requires-clause-room
write_file-requires-clause-room c =
    let room = c.in_ok-has_file_room.ensures.ok in
    let bytes = c.in-Ok.ensures.bytes in
    grind (arith, length_labels)

pub write_file-requires-clause-few : goal.write_file-requires-clause-few
write_file-requires-clause-few c =
    let few = c.in_ok-width.ensures.few in
    let bytes = c.in-Ok.ensures.bytes in
    grind (arith, length_labels)

pub returns-clause-ok : goal.returns-clause-ok
returns-clause-ok c =
    let many = rw c.in-Ok.ensures.bytes at (length_labels c.in-Ok.labels.items) in
    let count : length c.in-Ok.labels.items ≡ c.in_ok-width.width = omega arith in
    record {
      labels = c.in-Ok.labels.items;
      labels_are = record { spelled = sym c.in-Ok.ensures.bytes; each = c.in-Ok.ensures.labels };
      width = rw count c.in_ok-width.ensures.ok;
      file = (rw c.deref.ensures.value at c.write_file.ensures.file);
      count = omega (arith, ap length c.deref.ensures.value);
    }
