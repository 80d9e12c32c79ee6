use Rattle.gc_lanes.proofs.Names.{◌≡◌, ◌<◌, [], ℕ, List, get_or, length, slice_index, add32, round_constants, scheduled, lane}
use Rattle.gc_lanes.proofs.chain.schedules.Given as goal

-- The first t words and rows of each block's schedule are computed.
abbrev AreFilled : List (List ℕ) → List (List ℕ) → List ℕ → ℕ → Type 0
AreFilled words rows blocks t = (length words ≡ 64) × (length rows ≡ 64)
    × ((j k : ℕ) → j < 8 → k < t → lane (get_or words k []) j ≡ scheduled blocks j k)
    × ((j k : ℕ) → j < 8 → k < t → lane (get_or rows k []) j
    ≡ add32 (slice_index round_constants k) (scheduled blocks j k))

abbrev pub invariant-first : goal.invariant-first
invariant-first l = AreFilled l.words l.rows l.blocks l.t

abbrev pub invariant-next : goal.invariant-next
invariant-next l = AreFilled l.words l.rows l.blocks l.t
