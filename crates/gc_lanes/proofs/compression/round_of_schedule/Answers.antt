use Rattle.gc_lanes.proofs.Names.{◌∙◌, ap, refl, map-set, rounds_window, words_of_lane}
use Rattle.gc_lanes.proofs.compression.round_of_schedule.Goals as goal

pub returns : goal.returns
returns g c = λ j b h lt held.
    let words = words_of_lane g.W.Words.lane j in
    let next = c.next_word-word.ensures in
    rounds_window b h (words c.args.window.now) (words c.args.variables) c.args.t _ _ _ _
    c.requires.after c.requires.before held.0 held.1 (next.value j lt)
    (ap words next.window ∙ map-set _ _ _ _) refl (c.round.ensures j lt)
