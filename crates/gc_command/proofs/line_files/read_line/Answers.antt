use Rattle.gc_command.proofs.Names.{fun_ext}
use Rattle.gc_command.proofs.JobsLemmas.{parted}
use Rattle.gc_command.proofs.line_files.read_line.Goals as goal

pub returns-in-Ok-read_label_files-clause-named : goal.returns-in-Ok-read_label_files-clause-named
returns-in-Ok-read_label_files-clause-named g c =
    let names = parted c.deref.ensures.value c.in-Some.ensures.cases.0 (λ word. word.now)
    c.in-Ok.ensures in
    rw names (
      c.in-Ok-read.ensures.given,
      rw (fun_ext c.read.ensures.same) at c.in-Ok-read_label_files.ensures.labels,
    )

pub returns-clause-named : goal.returns-clause-named
returns-clause-named g c =
    let names = parted c.deref.ensures.value c.in-Some.ensures.cases.0 (λ word. word.now)
    c.in-Ok.ensures in
    rw names (
      c.in-Ok-read.ensures.given,
      rw (fun_ext c.read.ensures.same, c.in-Ok-read.ensures.counted)
          at c.in-Err-read_label_files.ensures.fault,
    )
