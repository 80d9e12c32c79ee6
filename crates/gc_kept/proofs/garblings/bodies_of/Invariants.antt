use Rattle.gc_kept.proofs.Names.{◌≡◌, map, take, body_of}
use Rattle.gc_kept.proofs.garblings.bodies_of.Given as goal

abbrev pub invariant-loop-garbling : goal.invariant-loop-garbling
invariant-loop-garbling l =
    map (λ b. b.items) l.bodies.items
    ≡ map (body_of l.version) (map (λ g. g.now) (take l.garbling-index l.garblings))
