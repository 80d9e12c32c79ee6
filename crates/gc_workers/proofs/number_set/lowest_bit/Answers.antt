use Rattle.std.proofs.Common.{w64}
use Rattle.std.proofs.lemmas.Nat.Bits.{bit_at-trailing_zeros}
use Rattle.gc_workers.proofs.number_set.lowest_bit.Goals as goal

pub returns : goal.returns
returns c =
    let lowest = bit_at-trailing_zeros w64 c.args.word c.requires c.ranges.word.fits in
    (lowest.0, lowest.1)
