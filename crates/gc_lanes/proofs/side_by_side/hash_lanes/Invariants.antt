use Rattle.gc_lanes.proofs.Names.{map}
use Rattle.gc_lanes.specs.SideBySide.{AreHashed}
use Rattle.gc_lanes.proofs.side_by_side.hash_lanes.Given as goal

abbrev pub invariant-chain : goal.invariant-chain
invariant-chain l = AreHashed l.state (map (λ message. message.now) l.messages) l.block
