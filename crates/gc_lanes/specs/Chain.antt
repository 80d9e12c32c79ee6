-- Blocks of 64 bytes that follow one another in a message, and their message schedules.
use Rattle.std.specs.Prelude.{◌≡◌, ◌<◌, ◌*◌, ℕ, List, [], drop, get_or, slice_index, take}
use Rattle.sha2.specs.Sha256.{add32, round_constants, schedule}
use Rattle.gc_lanes.specs.Lanes.{lane}

-- block j
abbrev pub block_at : List ℕ → ℕ → List ℕ
block_at p j = take 64 (drop (j * 64) p)

-- W t of block j
abbrev pub scheduled : List ℕ → ℕ → ℕ → ℕ
scheduled p j t = slice_index (schedule (block_at p j) 48) t

-- Row t holds, at each place j, the sum of K t and W t of block j.
abbrev pub AreSchedules : List (List ℕ) → List ℕ → Type 0
AreSchedules rows p = (j t : ℕ) → j < 8 → t < 64
    → lane (get_or rows t []) j ≡ add32 (slice_index round_constants t) (scheduled p j t)
