use Rattle.gc_circuit.proofs.Names.{get_or, sym, ap, arith}
use Rattle.gc_circuit.proofs.BitLemmas.{width_at}
use Rattle.gc_circuit.proofs.eval.fits.Goals as goal

pub returns-then-len-widths : goal.returns-then-len-widths
returns-then-len-widths g c = (
  λ no. let z : ⊥ = cc in absurd z,
  λ h.
      let wide = width_at (λ v. v.items) c.args.values.now c.args.circuit.now.input_widths
      c.loop-i.i c.index-values-i.result h c.loop-i-test.true (sym c.index-values-i.is) in
      let same = ap (λ l. get_or l c.loop-i.i 0) c.input_widths-widths.ensures in
      absurd (c.if-len-widths.true (omega (arith, wide, c.len.ensures, same))),
)
