use Rattle.gc_cli.proofs.Names.{string_bytes, err_from_is_err_and}
use Rattle.gc_cli.proofs.ArgumentsLemmas.{line-memory}
use Rattle.gc_cli.proofs.arguments.arguments_of.Goals as goal

pub returns-in_err-push_argument-clause-refusal : goal.returns-in_err-push_argument-clause-refusal
returns-in_err-push_argument-clause-refusal g c =
    let p = err_from_is_err_and c.from_residual.result c.from_residual.ensures.1 in
    rw (p.1, p.2) (line-memory string_bytes _ _ _ _ _ c.in-Some.ensures.cases.0)
