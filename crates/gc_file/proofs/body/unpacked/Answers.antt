use Rattle.gc_file.proofs.ReaderNames.{◌/◌, ◌%◌, slice_index, refl, arith, map-range_with_len_more, bit_in, shr_and_one}
use Rattle.gc_file.proofs.body.unpacked.Goals as goal

pub loop-i-preserved : goal.loop-i-preserved
loop-i-preserved g c =
    let bytes = c.args.bytes.now in let i = c.loop-i.i in
    rw (
      c.in_ok-push.ensures.items,
      c.loop-i.invariant,
      shr_and_one (slice_index bytes (i / 8)) (i % 8),
      map-range_with_len_more (bit_in bytes) 0 i i (omega arith),
    ) refl
