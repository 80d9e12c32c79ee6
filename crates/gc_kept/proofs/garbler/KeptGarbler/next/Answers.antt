use Rattle.gc_kept.proofs.Names.{◌∙◌, refl, ap, arith, and_count}
use Rattle.gc_half.proofs.StreamingLemmas.{garbler-few}
use Rattle.gc_kept.proofs.garbler.KeptGarbler.next.Goals.{else-buffer-lt-PAIR-via-then-buffer-lt-PAIR+else-not-is_whole, else-buffer-lt-PAIR-via-else-buffer-lt-PAIR}
use Rattle.gc_kept.proofs.garbler.KeptGarbler.next.Goals as goal

pub returns-clause-ok : goal.returns-clause-ok
returns-clause-ok c =
    let is = c.self.invariant in
    let few = garbler-few c.self.inside.circuit.netlist is.given is.rows _ is.so_far in
    record {
      makes = c.write_next.ensures.makes;
      most = c.write_next.ensures.most;
      none = λ nothing. rw (← c.self.view_is) (elim c.else-buffer-lt-PAIR.branch [
        | else-buffer-lt-PAIR-via-then-buffer-lt-PAIR+else-not-is_whole w ↦
            w.is_whole.ensures.0 (rw w.if-not-is_whole.false refl)
            ∙ ap and_count w.circuit.ensures.same
        | else-buffer-lt-PAIR-via-else-buffer-lt-PAIR w ↦
            let most = rw (← c.self.view_is) at c.write_next.ensures.most in omega (arith, few)
      ]);
    }
