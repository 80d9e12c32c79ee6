use Rattle.gc_work.proofs.Names.{Some, arith, length-set, count_by-le-length}
use Rattle.gc_store.proofs.CountLemmas.{claims-count, finishes-count}
use Rattle.gc_work.proofs.sweep.sweep.Goals as goal

pub loop-task-smaller : goal.loop-task-smaller
loop-task-smaller g c =
    let claimed = claims-count _ _ (Some c.in-Some.task) c.in-Some.ensures.step in
    let finished = finishes-count _ _ _ _ c.in-Ok.ensures.step in
    grind (arith, claimed, finished, count_by-le-length, length-set)
