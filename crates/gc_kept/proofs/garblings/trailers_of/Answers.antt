use Rattle.gc_kept.proofs.Names.{◌-◌, length-drop, drop, arith, length-take-le, sha256}
use Rattle.gc_kept.proofs.GarblingsLemmas.{group_more}
use Rattle.gc_kept.proofs.garblings.trailers_of.Goals as goal

pub loop-next-preserved : goal.loop-next-preserved
loop-next-preserved c =
    let l = c.loop-next in
    let bodies = c.args.bodies.now in
    let end = c.min-end.result in
    let count = length-take-le (end - l.next) (drop l.next bodies)
    (omega (arith, c.min-end.ensures, length-drop l.next bodies)) in
    record {
      within = omega (arith, c.min-end.ensures);
      done = rw (
        c.in_ok-extend_from_slice.ensures.items,
        l.invariant.done,
        (rw count at c.digest_eight-digests.ensures),
      ) (group_more (λ b. sha256 b.now) bodies l.next end (omega (arith, c.min-end.ensures)));
    }
