use Rattle.gc_lanes.proofs.Names.{take, arith, refl, take-append-drop, take_rest}
use Rattle.gc_lanes.proofs.Messages.{holds-buffers}
use Rattle.gc_lanes.proofs.digests.digest_rest.Goals as goal

pub returns : goal.returns
returns c =
    let m = c.args.message.now in
    let n = c.args.start in
    let begun = holds-buffers _ m n c.requires.buffers c.requires.within (omega arith) refl
    c.requires.hash in
    c.finalize.ensures m
    (rw (take_rest m n, take-append-drop n m) at (c.update.ensures (take n m) begun))
