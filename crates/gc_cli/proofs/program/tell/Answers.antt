use Rattle.gc_cli.proofs.Names.{rules, inr}
use Rattle.gc_cli.proofs.program.tell.Goals as goal

pub returns-in-Some-clause-explained : goal.returns-in-Some-clause-explained
returns-in-Some-clause-explained g c =
    inr (search rules, (_, c.in-Some.ensures, search (rules, c.write_all.ensures)))
