use Rattle.gc_lanes.proofs.Names.{rules, lane}
use Rattle.gc_lanes.proofs.Turning.{eight-map}
use Rattle.gc_lanes.proofs.side_by_side.hash_of_lane.Goals as goal

pub returns : goal.returns
returns c = cc (eight-map (λ v. lane v c.args.place) c.args.state.now (search rules))
