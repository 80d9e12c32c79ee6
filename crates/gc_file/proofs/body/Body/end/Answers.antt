use Rattle.gc_file.proofs.ReaderNames.{◌≡◌, length, arith, nat_tests, truncated, GarbledParts, in_order, ends_early}
use Rattle.gc_file.proofs.FileLemmas.{file_is}
use Rattle.gc_file.proofs.body.Body.end.Goals as goal

pub returns-then-not-is_full : goal.returns-then-not-is_full
returns-then-not-is_full g c =
    λ other. rw (← c.self.view_is)
    (truncated _ (in_order c.self.invariant) (ends_early c.self.invariant (grind (arith, nat_tests))))

pub returns : goal.returns
returns g c =
    let inside = c.self.inside in
    let body = c.self.invariant in
    let header = c.as_slice-header.ensures.value in
    let decode = c.as_slice-decode_bytes.ensures.value in
    let full : length inside.trailer.items ≡ 32 = grind (arith, nat_tests) in
    let decode_full = body.filled.decode_first (omega arith) in
    let parts : GarbledParts = record {
      version = c.of-counts.result.version;
      digest = c.digest_in-digest.result;
      rows = c.into_pairs.result.items;
      decode_bits = c.in_ok-decode_bits.decode_bits.items;
      entries = c.into_pairs-2.result.items;
    } in
    rw (← c.self.view_is)
    (file_is inside.header.items inside.rows inside.decode_bytes.items inside.entries
    inside.trailer.items parts
    (record {
      header = body.whole;
      rows = body.filled.rows_first (omega arith);
      decode = decode_full;
    })
    body.in_order (body.filled.entries_first (omega arith)) (body.no_spare_bit decode_full)
    (body.hashed.right full) (rw (← header) c.digest_in-digest.ensures.bytes)
    (rw (← decode) c.in_ok-decode_bits.ensures.bytes)
    (rw (← header) c.of-counts.ensures.version) (rw (← header) c.digest_in-digest.ensures.digest)
    c.into_pairs.ensures.bytes c.into_pairs-2.ensures.bytes
    (rw (← decode, ← header, ← c.of-counts.ensures.outputs) c.in_ok-decode_bits.ensures.bits)
    c.into_pairs.ensures.labels c.into_pairs-2.ensures.labels)
