use Rattle.gc_command.proofs.Names.{◌==◌, fun_ext, slice_split, IfOk-weaker, IfErr-weaker}
use Rattle.gc_command.proofs.JobListLemmas.{all_have_words}
use Rattle.gc_command.proofs.JobsLemmas.{list-fault}
use Rattle.gc_command.proofs.binder.Binder.read_listed_jobs.Goals as goal

pub read_jobs-requires-clause-words : goal.read_jobs-requires-clause-words
read_jobs-requires-clause-words g c =
    rw (c.deref-2.ensures.value, c.in_ok-lines.ensures.lines)
    (all_have_words (slice_split (λ b. b == 10) c.deref.result.now))

pub returns-clause-listed : goal.returns-clause-listed
returns-clause-listed g c = IfOk-weaker c.read_jobs.result _ _
    (λ jobs named. record {
      text = c.deref.result.now;
      text_read = rw c.deref.ensures.value c.in_ok-text.ensures.given;
      is_list = c.in_ok-lines.ensures.list;
      named = rw (c.deref-2.ensures.value, c.in_ok-lines.ensures.lines, fun_ext c.read.ensures.same)
          at named;
    })
    c.read_jobs.ensures.named

pub returns-clause-fault : goal.returns-clause-fault
returns-clause-fault g c = IfErr-weaker c.read_jobs.result _ _
    (λ fault has. list-fault _ _ _ c.deref.result.now _
    (rw c.deref.ensures.value c.in_ok-text.ensures.given) c.in_ok-lines.ensures.list fault
    (rw (
      c.deref-2.ensures.value,
      c.in_ok-lines.ensures.lines,
      fun_ext c.read.ensures.same,
      c.in_ok-text.ensures.counted,
    ) at has))
    c.read_jobs.ensures.fault
