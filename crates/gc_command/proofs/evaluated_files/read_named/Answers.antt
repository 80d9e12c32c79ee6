use Rattle.gc_command.proofs.Names.{fun_ext, inr}
use Rattle.gc_command.proofs.AnswerLemmas.{IfErr-exit}
use Rattle.gc_command.proofs.evaluated_files.read_named.Goals as goal

pub returns-in_err-labels-clause-fault : goal.returns-in_err-labels-clause-fault
returns-in_err-labels-clause-fault g c =
    IfErr-exit c.from_residual-in_err-labels.result _ _
    c.from_residual-in_err-labels.ensures.1 (inr (
      _,
      c.in_ok-garbled.ensures.garbled,
      rw (fun_ext c.read_garbled_file.ensures.same, c.in_ok-garbled.ensures.counted)
          at c.in_err-labels.ensures.fault,
    ))

pub returns-clause-given : goal.returns-clause-given
returns-clause-given g c = record {
  garbled_read = c.in_ok-garbled.ensures.garbled;
  labels_read = rw (fun_ext c.read_garbled_file.ensures.same) at c.in_ok-labels.ensures.labels;
}
