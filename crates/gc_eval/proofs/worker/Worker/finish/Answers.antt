use Rattle.gc_eval.proofs.Names.{All-set, IsWorkerOf}
use Rattle.gc_eval.proofs.worker.Worker.finish.Goals as goal

pub loop-k-preserved : goal.loop-k-preserved
loop-k-preserved g c = record {
  own = c.learn_from.ensures.own;
  others = All-set (IsWorkerOf c.args.board.now) _ _ _ c.learn_from.ensures.other
      c.loop-k.invariant.others;
}
