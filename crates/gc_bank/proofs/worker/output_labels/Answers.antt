use Rattle.gc_bank.proofs.Names.{arith, sym, ◌∙◌, active}
use Rattle.std.proofs.lemmas.List.FromFn.{map-range_with_len_more}
use Rattle.gc_bank.proofs.worker.output_labels.Goals as goal

pub loop-i-preserved : goal.loop-i-preserved
loop-i-preserved g c =
    let before = c.loop-i.invariant in (
      c.label.ensures.own,
      c.label.ensures.ran.position ∙ before.1,
      λ job there.
          let got = rw (before.1, there) at c.in-Some.ensures.some in
          rw (c.in_ok-push.ensures.items, before.2 job there, got.right)
          (sym (map-range_with_len_more (active job) _ c.loop-i.i _ (omega arith))),
    )
