use Rattle.gc_eval.specs.Workers.{IsWorkerOf, AreWorkersOf}
use Rattle.gc_eval.proofs.worker.Worker.finish.Given as goal

abbrev pub invariant-loop-k : goal.invariant-loop-k
invariant-loop-k g l = record {
  own : IsWorkerOf l.board l.self;
  others : AreWorkersOf l.board l.others;
}
