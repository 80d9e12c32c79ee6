use Rattle.gc_lanes.proofs.Names.{◌-◌, arith, slice_index-schedule_next, block_at}
use Rattle.gc_lanes.proofs.chain.next_words.Goals as goal

pub returns : goal.returns
returns c = λ j p lt held.
    let t = c.args.t in
    grind (
      arith,
      slice_index-schedule_next (block_at p j) 48 t (omega arith) (omega arith),
      held (t - 2) (omega arith),
      held (t - 7) (omega arith),
      held (t - 15) (omega arith),
      held (t - 16) (omega arith),
    )
