use Rattle.gc_order.proofs.Names.{IfOk-weaker}
use Rattle.gc_order.proofs.commands.halfgates.Goals as goal

pub returns : goal.returns
returns c =
    let run = c.in_ok-program.ensures _ _ c.named_program.ensures c.run.ensures in
    let plain = c.in_ok-program-2.ensures _ _ run c.plain.ensures in
    let check = c.in_ok-program-3.ensures _ _ plain c.check.ensures in
    let locate = c.in_ok-program-4.ensures _ _ check c.locate.ensures in
    let stats = c.in_ok-program-5.ensures _ _ locate c.stats.ensures in
    let order = c.in_ok-program-6.ensures _ _ stats c.order.ensures in
    let garble = c.in_ok-program-7.ensures _ _ order c.garble.ensures in
    let deal = c.in_ok-program-8.ensures _ _ garble c.deal.ensures in
    let eval = c.in_ok-program-9.ensures _ _ deal c.eval.ensures in
    let jobs = c.in_ok-program-10.ensures _ _ eval c.jobs.ensures in
    let labels = c.in_ok-program-11.ensures _ _ jobs c.labels.ensures in
    IfOk-weaker c.with_command-12.result _ _ (λ made has. has _ _ labels c.audit.ensures)
    c.with_command-12.ensures
