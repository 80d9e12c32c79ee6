use Rattle.gc_lanes.proofs.Names.{◌≡◌, ◌<◌, ℕ, slice_index, to_le_bytes, w64, word_at}
use Rattle.gc_lanes.proofs.block.tweak_word.Given as goal

abbrev pub invariant-loop-j : goal.invariant-loop-j
invariant-loop-j g l =
    (j : ℕ) → j < l.j
    → g.W.Words.lane l.words j ≡ word_at (to_le_bytes w64 (slice_index l.tweaks j)) l.start
