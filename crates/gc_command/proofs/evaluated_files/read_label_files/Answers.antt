use Rattle.gc_command.proofs.Names.{[], arith, append-nil, drop_all}
use Rattle.gc_command.proofs.AnswerLemmas.{IfErr-exit}
use Rattle.gc_command.proofs.EvalLemmas.{labels-memory}
use Rattle.gc_command.proofs.evaluated_files.read_label_files.Goals as goal

pub returns-in_err-labels-clause-fault : goal.returns-in_err-labels-clause-fault
returns-in_err-labels-clause-fault g c =
    IfErr-exit c.from_residual.result _ _ c.from_residual.ensures.1 (labels-memory _ _ _)

pub returns-in_err-push-clause-fault : goal.returns-in_err-push-clause-fault
returns-in_err-push-clause-fault g c =
    IfErr-exit c.from_residual-in_err-push.result _ _
    c.from_residual-in_err-push.ensures.1 (labels-memory _ _ _)

pub returns-clause-labels : goal.returns-clause-labels
returns-clause-labels g c =
    let none = drop_all c.loop-name.name-index c.args.names.now (omega arith) in
    rw append-nil at (c.loop-name.invariant.files [] (rw none tt))
