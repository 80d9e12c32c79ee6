use Rattle.gc_kept.proofs.Names.{◌≡◌, IsTrue, arith, GarblingWith}
use Rattle.gc_kept.proofs.GarblingsLemmas.{one_of}
use Rattle.gc_kept.proofs.garblings.bodies_of.Goals as goal

pub body-requires : goal.body-requires
body-requires c =
    let here = c.garbling-item.is in
    record {
      from_zero = one_of (λ g. g.now) _ _ _ _ (omega arith) here
          (λ (g : GarblingWith). g.first ≡ 0) c.requires.numbers;
      digest = one_of (λ g. g.now) _ _ _ _ (omega arith) here
          (λ (g : GarblingWith). IsTrue g.has_digest) c.requires.digests;
    }
