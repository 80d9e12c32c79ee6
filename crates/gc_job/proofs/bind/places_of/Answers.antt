use Rattle.gc_job.proofs.Names.{◌≡◌, ℕ, Option, None, Some, length, take, slice_get, replicate, refl, arith, slice_get_read, err_from_is_err_and, of_file, get_or-replicate}
use Rattle.gc_job.proofs.BindLemmas.{places_none, in_order_more, places_more}
use Rattle.gc_job.proofs.bind.places_of.Goals as goal

pub loop-i-init : goal.loop-i-init
loop-i-init g c = record {
  in_order = λ i file below at. absurd (omega arith);
  marked = places_none (replicate 256 None)
      (λ k room. get_or-replicate {A = Option ℕ} 256 k None None room);
}

pub returns-in_err-value-clause-err : goal.returns-in_err-value-clause-err
returns-in_err-value-clause-err g c =
    let p = err_from_is_err_and c.from_residual.result c.from_residual.ensures.1 in
    rw (p.1, p.2) (of_file c.loop-i.i c.index-files-i.result _ c.loop-i.invariant.in_order
    (slice_get_read _ (length c.args.files.now) _ _ refl (omega arith) c.index-files-i.is)
    (c.in_err-value.ensures.err (take c.loop-i.i c.args.files.now) c.loop-i.invariant.marked))

pub loop-i-preserved : goal.loop-i-preserved
loop-i-preserved g c =
    let at : slice_get c.args.files.now c.loop-i.i ≡ Some c.index-files-i.result =
    slice_get_read _ (length c.args.files.now) _ _ refl (omega arith) c.index-files-i.is in
    record {
      in_order = in_order_more _ _ _ _ at c.loop-i.invariant.in_order
          (c.in_ok-value.ensures.ok (take c.loop-i.i c.args.files.now) c.loop-i.invariant.marked);
      marked = rw c.in_ok-value.ensures.value (places_more c.args.widths.now _ _ _ at _
          (omega (arith, c.in_ok-value.ensures.value, c.in_ok-value.ensures.bound, c.requires))
          c.loop-i.invariant.marked);
    }

pub returns-clause-in_order : goal.returns-clause-in_order
returns-clause-in_order g c =
    let whole : c.loop-i.i ≡ length c.args.files.now = omega arith in
    rw whole at c.loop-i.invariant.in_order
