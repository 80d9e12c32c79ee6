-- How often a round with a gate, or these with a number, are in a list.
use Rattle.std.specs.Prelude.{ℕ, ◌*◌, List}
use Rattle.gc_workers.specs.Counts.{total, only}

-- 1 where the pair is round r with gate g, and else 0
abbrev pub is_pair : ℕ → ℕ → ℕ × ℕ → ℕ
is_pair r g p = only r p.0 * only g p.1

-- how often round r with gate g is in the list
abbrev pub pairs : ℕ → ℕ → List (ℕ × ℕ) → ℕ
pairs r g l = total (is_pair r g) l

-- 1 where the look found n at gate g in round r, and else 0
abbrev pub is_look : ℕ → ℕ → ℕ → ℕ × ℕ × ℕ → ℕ
is_look r g n t = only r t.0 * only g t.1 * only n t.2

-- how often a look found that
abbrev pub looked : ℕ → ℕ → ℕ → List (ℕ × ℕ × ℕ) → ℕ
looked r g n l = total (is_look r g n) l
