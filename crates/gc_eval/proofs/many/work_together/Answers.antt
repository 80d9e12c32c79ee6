use Rattle.gc_eval.proofs.Names.{All-push, all_but_last, all_last, IsWorkerOf}
use Rattle.gc_eval.proofs.many.work_together.Goals as goal

pub finish-requires-clause-own : goal.finish-requires-clause-own
finish-requires-clause-own g c =
    all_last _ _ _ c.in-Some.ensures.cases.0 (IsWorkerOf c.args.board.now) c.all_work.ensures

pub finish-requires-clause-others : goal.finish-requires-clause-others
finish-requires-clause-others g c =
    all_but_last _ _ _ c.in-Some.ensures.cases.0 (IsWorkerOf c.args.board.now) c.all_work.ensures

pub returns-in-Some : goal.returns-in-Some
returns-in-Some g c =
    All-push (IsWorkerOf c.args.board.now) _ _ c.finish.ensures.others c.finish.ensures.own
