use Rattle.gc_lanes.proofs.Names.{◌-◌, ◌%◌, arith, padding-take}
use Rattle.gc_lanes.proofs.hasher.padding.Goals as goal

pub returns : goal.returns
returns c = padding-take 0x80 0 ((119 - c.args.used) % 64) (omega arith)
