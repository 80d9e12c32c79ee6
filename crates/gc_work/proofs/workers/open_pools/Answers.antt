use Rattle.gc_work.proofs.Names.{◌≡◌, ◌∙◌, ◌∷◌, [], ◌++◌, Some, length, slice_get, ap, rules, All-push, whole_back, slice_get-push, slice_get-append}
use Rattle.gc_work.proofs.workers.open_pools.Goals as goal

pub loop-i-preserved : goal.loop-i-preserved
loop-i-preserved g c =
    let pools = c.loop-i.pools.items in
    let pool = c.in_ok-pool.pool in
    let place : length pools ≡ c.len-place.result = search rules in
    let own = ap (λ o. o.pool) c.in_ok-pool.ensures.owner in
    let count : c.loop-i.rows.len ≡ length c.loop-i.rows.items = search rules in
    let back = whole_back _ _ _ (c.spread.auto.rows ∙ ap length c.as_mut_slice.ensures.value)
    count in
    record {
      owners = rw (c.in_ok-push-2.ensures.items, c.in_ok-push.ensures.items)
          (All-push (λ o. slice_get (pools ++ pool ∷ []) o.place ≡ Some o.owner.pool)
          c.loop-i.owners.items _
          (λ k d h. slice_get-append pools (pool ∷ []) _ _ (c.loop-i.invariant.owners k d h))
          (rw (← place, own) (slice_get-push pools pool)));
      rows = rw (back, c.in_ok-push.ensures.items)
          (rw c.as_slice.ensures.value at c.in_ok-spread.ensures);
    }
