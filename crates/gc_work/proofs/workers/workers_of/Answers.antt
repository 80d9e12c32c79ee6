use Rattle.gc_work.proofs.Names.{◌≡◌, Some, slice_get, All-pop, All-push, ArePlaced, IsPlacedWorker}
use Rattle.gc_work.proofs.workers.workers_of.Goals as goal

pub loop-placed-preserved : goal.loop-placed-preserved
loop-placed-preserved g c =
    let pools = c.args.opened.pools.items in
    let was = c.loop-placed.invariant in
    let held = All-pop (λ o. slice_get pools o.place ≡ Some o.owner.pool) _ _
    (Some c.in-Some.placed) c.in-Some.ensures.items was.owners in
    let rows = All-pop (λ row. ArePlaced pools row.items) _ _ (Some c.in-Some-pop.thieves)
    c.in-Some-pop.ensures.items was.rows in record {
      owners = held.0;
      rows = rows.0;
      workers = rw c.in_ok-push.ensures.items (All-push (λ w. IsPlacedWorker pools w)
          c.loop-placed.workers.items _ was.workers (record { own = held.1; others = rows.1 }));
    }
