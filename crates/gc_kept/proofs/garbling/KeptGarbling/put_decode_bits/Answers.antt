use Rattle.gc_kept.proofs.Names.{length-set, ap, arith, decode_bits_of, GarblingWith}
use Rattle.gc_kept.proofs.PieceLemmas.{bits_more}
use Rattle.gc_kept.proofs.garbling.KeptGarbling.put_decode_bits.Goals as goal

pub loop-i-preserved : goal.loop-i-preserved
loop-i-preserved c =
    let l = c.loop-i in
    let many = ap (λ (g : GarblingWith). g.garbling.outputs) c.self.view_is in
    record {
      done = bits_more l.bits (decode_bits_of c.args.self.now.garbling) l.i _ c.decode_bit.result
          (omega (arith, many)) l.invariant.done (rw (← c.self.view_is) c.decode_bit.ensures)
          c.bit_byte.ensures;
      count = rw length-set l.invariant.count;
    }
