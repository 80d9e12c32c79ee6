use Rattle.gc_kept.proofs.Names.{get_or_read, ◌≡◌, ◌+◌, ◌<◌, false, length, length-set, get_or, ap, ◌∙◌, arith, slice_index, take_all, slice_get-get_or, encode, length-encoded_with}
use Rattle.gc_kept.proofs.OpenLemmas.{encoded_at, length-are}
use Rattle.gc_kept.proofs.PieceLemmas.{bits_more}
use Rattle.gc_kept.proofs.open.put_bits.Goals as goal

pub loop-i-preserved : goal.loop-i-preserved
loop-i-preserved c =
    let l = c.loop-i in
    let zeros = c.args.zero_labels.now in
    let zero : c.index-zero_labels-i.result ≡ slice_index zeros (0 + l.i) =
    get_or_read zeros l.i _ (omega arith) c.index-zero_labels-i.is 0
    ∙ ap (slice_index zeros) (omega arith) in
    record {
      count = rw length-set l.invariant.count;
      done = λ offset opened odd are.
          let many = length-are c.args.labels.now _ are in
          let same = length-encoded_with offset (slice_index zeros) 0 opened in
          let within : l.i < length opened = omega arith in
          let bit = get_or opened l.i false in
          let at = encoded_at offset (slice_index zeros) 0 opened l.i within in
          let read = c.label_at.ensures _ are in
          let label : c.label_at.result ≡ encode offset (slice_index zeros (0 + l.i)) bit = cc in
          bits_more l.bits opened l.i _ bit (omega arith) (l.invariant.done offset opened odd are)
          (slice_get-get_or opened l.i false within)
          (rw (← c.bit_of.ensures offset bit odd (rw zero label)) c.bit_byte.ensures);
    }

pub returns : goal.returns
returns c offset opened odd are =
    let l = c.loop-i in
    let zeros = c.args.zero_labels.now in
    let many = length-are c.args.labels.now _ are in
    let same = length-encoded_with offset (slice_index zeros) 0 opened in
    rw (take_all l.i l.bits (omega arith), take_all l.i opened (omega arith)) at
    (l.invariant.done offset opened odd are)
