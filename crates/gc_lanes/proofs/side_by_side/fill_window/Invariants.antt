use Rattle.gc_lanes.proofs.Names.{◌≡◌, ◌+◌, ◌*◌, ◌<◌, [], ℕ, get_or, length, map, word_at, lane}
use Rattle.gc_lanes.proofs.side_by_side.fill_window.Given as goal

abbrev pub invariant-words : goal.invariant-words
invariant-words l = (length l.window ≡ 16)
    × ((j k : ℕ) → j < 8 → k < l.t → lane (get_or l.window k []) j
    ≡ word_at (get_or (map (λ message. message.now) l.messages) j []) (64 * l.block + 4 * k))
