use Rattle.gc_cli.proofs.Names.{rules, ⊎_elim, inl, inr, arith, refl, order_text}
use Rattle.gc_command.specs.declared.fault.Fault.TheVariants.{CannotWrite}
use Rattle.gc_cli.proofs.MistakeLemmas.{IsMistaken-other_kind}
use Rattle.gc_cli.proofs.program.serve_asked.Goals as goal

pub returns-in-Ok-clause-fault : goal.returns-in-Ok-clause-fault
returns-in-Ok-clause-fault g c = λ _ words old new is.
    let read = rw c.in-Ok.is at is in (
      c.in-Err-print_result.fault,
      (
        inl (
          order_text c.in-Ok.asked.order,
          read.0,
          rw c.tell.ensures.same c.in-Err-print_result.ensures.fault,
        ),
        (
          _,
          c.report-status.ensures.printed,
          inr (
            order_text c.in-Ok.asked.order,
            read.0,
            rw (← read.1) c.tell.ensures.explained,
          ),
        ),
      ),
    )

-- The words have a fault that asks for no text, or memory ran out.
pub returns-clause-usage : goal.returns-clause-usage
returns-clause-usage g c = λ _ words old new is.
    let other = c.use_stderr.ensures.0 c.if-not-use_stderr.false in
    ⊎_elim (λ listed. inl (IsMistaken-other_kind words _ listed.0 other.0 other.1))
    (λ short. inr (omega (arith, short.1))) (rw c.in-Err.is at is)

pub returns-in-Err-clause-fault : goal.returns-in-Err-clause-fault
returns-in-Err-clause-fault g c = λ _ words old new is.
    (CannotWrite, (search rules, (_, c.report.ensures.printed, inl refl)))
