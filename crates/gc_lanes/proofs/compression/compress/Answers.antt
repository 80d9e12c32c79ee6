use Rattle.gc_lanes.proofs.Names.{◌∙◌, add_state, compress, rounds}
use Rattle.gc_lanes.proofs.compression.compress.Goals as goal

pub returns : goal.returns
unfolding compress rounds
returns g c = λ j b h lt given.
    let begun = given _ _ c.begin-state.ensures in
    let r4 = c.four_rounds_of_block-variables.ensures j b h lt begun.1 begun.0 in
    let r8 = c.four_rounds_of_block-variables-2.ensures j b h lt begun.1 r4 in
    let r12 = c.four_rounds_of_block-variables-3.ensures j b h lt begun.1 r8 in
    let r16 = c.four_rounds_of_block-variables-4.ensures j b h lt begun.1 r12 in
    let r20 = c.four_rounds_of_schedule-variables.ensures j b h lt (begun.1, r16) in
    let r24 = c.four_rounds_of_schedule-variables-2.ensures j b h lt r20 in
    let r28 = c.four_rounds_of_schedule-variables-3.ensures j b h lt r24 in
    let r32 = c.four_rounds_of_schedule-variables-4.ensures j b h lt r28 in
    let r36 = c.four_rounds_of_schedule-variables-5.ensures j b h lt r32 in
    let r40 = c.four_rounds_of_schedule-variables-6.ensures j b h lt r36 in
    let r44 = c.four_rounds_of_schedule-variables-7.ensures j b h lt r40 in
    let r48 = c.four_rounds_of_schedule-variables-8.ensures j b h lt r44 in
    let r52 = c.four_rounds_of_schedule-variables-9.ensures j b h lt r48 in
    let r56 = c.four_rounds_of_schedule-variables-10.ensures j b h lt r52 in
    let r60 = c.four_rounds_of_schedule-variables-11.ensures j b h lt r56 in
    let r64 = c.four_rounds_of_schedule-variables-12.ensures j b h lt r60 in
    c.add_states.ensures j lt ∙ (λ i. add_state (begun.0 i) (r64.1 i))
