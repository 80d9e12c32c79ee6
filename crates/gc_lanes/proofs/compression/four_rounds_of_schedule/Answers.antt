use Rattle.gc_lanes.proofs.Names.{arith, IsRoundsAt_at}
use Rattle.gc_lanes.proofs.compression.four_rounds_of_schedule.Goals as goal

pub returns : goal.returns
returns g c = λ j b h lt held.
    let one = c.round_of_schedule-variables.ensures j b h lt held in
    let two = c.round_of_schedule-variables-2.ensures j b h lt one in
    let three = c.round_of_schedule-variables-3.ensures j b h lt
    (IsRoundsAt_at b h _ _ _ _ (omega arith) two) in
    IsRoundsAt_at b h _ _ _ _ (omega arith)
    (c.round_of_schedule.ensures j b h lt (IsRoundsAt_at b h _ _ _ _ (omega arith) three))
