use Rattle.gc_cli.proofs.Names.{rules}
use Rattle.gc_cli.proofs.program.refuse_line.Goals as goal

pub returns-clause-printed : goal.returns-clause-printed
returns-clause-printed g c =
    let printed = rw (c.reason_of-reason.ensures, c.kind.ensures) at c.writeln.ensures.printed in
    search (rules, printed)
