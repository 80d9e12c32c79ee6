use Rattle.gc_kept.proofs.Names.{length-evaluated, ap, length, arith}
use Rattle.gc_kept.proofs.job.KeptJob.outcome.Goals as goal

pub write_bits-requires : goal.write_bits-requires
write_bits-requires c =
    let whole = rw c.borrowed.ensures at c.law_whole.ensures in
    omega (
      arith,
      ap length c.deref.ensures.value,
      length-evaluated c.args.self.now whole c.in-Some.found.items
          (rw c.in-Some.is at c.requires.known),
    )
