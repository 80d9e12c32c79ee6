use Rattle.gc_command.proofs.Names.{arith, tokens, IfOk-weaker, IfErr-weaker}
use Rattle.gc_command.proofs.JobsLemmas.{only-named, only-words}
use Rattle.gc_command.proofs.LineLemmas.{made-named, making-fault}
use Rattle.gc_command.proofs.binder.Binder.read_group.Goals as goal

pub read_job-requires-clause-words : goal.read_job-requires-clause-words
read_job-requires-clause-words g c =
    only-words (λ line. tokens line.now) c.args.lines.now _ (omega (arith, c.in-len1.len_at_least))
    c.requires.words

pub returns-in-len1-clause-named : goal.returns-in-len1-clause-named
returns-in-len1-clause-named g c =
    rw (c.in_ok-push.ensures.items, c.in_ok-jobs.ensures.items)
    (only-named (g.F.Files.bytes c.args.files.now) c.args.self.now.circuit.now (λ line. tokens line.now)
    c.args.lines.now _ c.in_ok-read_job.field-0 (omega (arith, c.in-len1.len_at_least))
    (omega (arith, c.in-len1.len_below)) c.in_ok-read_job.ensures.named)

pub returns-clause-named : goal.returns-clause-named
returns-clause-named g c = IfOk-weaker c.jobs_of_files.result _ _
    (λ jobs made. (made-named _ _ _ _ _ _ _ c.in_ok-read.ensures.read made).0)
    c.jobs_of_files.ensures.made

pub returns-clause-fault : goal.returns-clause-fault
returns-clause-fault g c = IfErr-weaker c.jobs_of_files.result _ _
    (λ fault has. making-fault _ _ _ _ _ _ c.in_ok-read.ensures.read fault has)
    c.jobs_of_files.ensures.fault

pub returns-clause-counted : goal.returns-clause-counted
returns-clause-counted g c = IfOk-weaker c.jobs_of_files.result _ _
    (λ jobs made. (made-named _ _ _ _ _ _ _ c.in_ok-read.ensures.read made).1)
    c.jobs_of_files.ensures.made
