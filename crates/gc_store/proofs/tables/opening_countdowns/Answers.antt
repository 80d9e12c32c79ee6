use Rattle.gc_store.proofs.Names.{arith, common_steps, map-range_with_len_more, opening_countdown}
use Rattle.gc_store.proofs.tables.opening_countdowns.Goals as goal

pub loop-i-preserved : goal.loop-i-preserved
loop-i-preserved g c =
    let more = map-range_with_len_more (opening_countdown c.args.circuit.now) 0 c.loop-i.i in
    grind (arith, common_steps, more)
