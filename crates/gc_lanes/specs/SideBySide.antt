-- Messages side by side, one in each of eight lanes.
use Rattle.std.specs.Prelude.{◌≡◌, ◌<◌, ◌≤◌, ℕ, List, [], get_or, length}
use Rattle.sha2.specs.Sha256.{IsWindow, hash_after, initial_hash_256, schedule}
use Rattle.gc_lanes.specs.Chain.{block_at}
use Rattle.gc_lanes.specs.Lanes.{lane, words_of_lane}

-- Each message has at least n bytes.
abbrev pub AreLonger : List (List ℕ) → ℕ → Type 0
AreLonger messages n = (j : ℕ) → j < 8 → n ≤ length (get_or messages j [])

-- Each lane of the window has the words of block n of its message.
abbrev pub AreWindows : List (List ℕ) → List (List ℕ) → ℕ → Type 0
AreWindows window messages n = (j : ℕ) → j < 8
    → IsWindow (words_of_lane lane j window) (schedule (block_at (get_or messages j []) n) 48) 16

-- Each lane of the state has the hash value after the first n blocks of its message.
abbrev pub AreHashed : List (List ℕ) → List (List ℕ) → ℕ → Type 0
AreHashed state messages n = (j : ℕ) → j < 8
    → words_of_lane lane j state ≡ hash_after initial_hash_256 (get_or messages j []) n
