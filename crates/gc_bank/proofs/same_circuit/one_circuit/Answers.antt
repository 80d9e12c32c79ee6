use Rattle.gc_bank.proofs.Names.{◌∙◌, sym, ap, option_copied, slice_get_within}
use Rattle.gc_bank.proofs.same_circuit.one_circuit.Goals as goal

pub returns-in-Some : goal.returns-in-Some
returns-in-Some g c = (
  λ is i k a b a_at b_at.
      let on = c.are_on.ensures.0 is in
      on i a (slice_get_within _ i a a_at) a_at ∙ sym (on k b (slice_get_within _ k b b_at) b_at),
  λ one. c.are_on.ensures.1 (λ k job below job_at.
      one k 0 job _ job_at (sym c.first.ensures.value ∙ ap option_copied c.in-Some.is)
      ∙ sym c.circuit.ensures.circuit),
)
