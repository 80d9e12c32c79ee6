use Rattle.std.proofs.Common.{arith, refl, ◌∙◌, length-append}
use Rattle.gc_work.proofs.PoolMoves.{forks, one_less, AllOf-push, stolen_by-push}
use Rattle.gc_work.proofs.pool.TaskPool.open.Goals as goal

pub another-pass-requires : goal.another-pass-requires
another-pass-requires g c =
    forks _ _ (omega (arith, c.loop-i.invariant.owning.parts, c.ranges.thieves.fits))

pub loop-i-preserved : goal.loop-i-preserved
loop-i-preserved g c =
    let pass = c.another-pass.ensures in
    let items = c.in_ok-push.ensures.items in
    let role = pass.rule.0 in
    let before = c.loop-i.invariant in record {
      owning = one_less _ _ _ _ _ _ _ _ before.owning role pass.same.0.3 pass.same.1
          (omega (arith, c.ranges.thieves.fits));
      fresh = rw role before.fresh;
      deque = pass.same.0.0 ∙ before.deque;
      count = rw items (omega (arith, length-append c.loop-i.others.items, before.count));
      all = rw items (AllOf-push _ c.loop-i.others.items _ before.all
          ((λ i. (pass.same.2.0 i, pass.same.2.1 i)) ∙ before.deque));
      none = rw (items, stolen_by-push, before.none, pass.rule.1) refl;
    }
