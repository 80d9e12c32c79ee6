-- The message schedules of blocks that follow one another.
use Rattle.gc_lanes.proofs.Names.{◌≤◌, ◌-◌, ◌≡◌, ℕ, zero, suc, ◌+◌, ◌*◌, ◌%◌, ◌^◌, ◌<◌, List, drop, slice_index, take, refl, sym, ◌∙◌, add-one, add-zero, arith, drop-drop, drop-take, get_or-drop, get_or-take, take-take, compress, hash_after, round, round_constants, rounds, word_at, slice_index-schedule_first, block_at, scheduled}
use native.Mathlib.Nat.{mod-eq_of_lt}

-- byte k of block j
byte-block : (p : List ℕ) (j k i : ℕ) → k < 64 → i ≡ j * 64 + k
    → slice_index (block_at p j) k ≡ slice_index p i
byte-block p j k i lt e =
    rw e (get_or-take 64 (drop (j * 64) p) k 0 lt ∙ get_or-drop (j * 64) p k 0)

-- The first sixteen words of a schedule are the block's.
pub scheduled-first : (p : List ℕ) (j t s : ℕ) → t < 16 → s ≡ j * 64 + 4 * t
    → word_at p s ≡ scheduled p j t
scheduled-first p j t s lt e =
    rw (
      slice_index-schedule_first (block_at p j) 48 t lt,
      byte-block p j (4 * t) s (omega arith) (omega arith),
      byte-block p j (4 * t + 1) (s + 1) (omega arith) (omega arith),
      byte-block p j (4 * t + 2) (s + 2) (omega arith) (omega arith),
      byte-block p j (4 * t + 3) (s + 3) (omega arith) (omega arith),
    ) refl

-- no round
pub rounds_none : (h ws : List ℕ) → rounds h ws 0 ≡ h
unfolding rounds
rounds_none h ws = refl

-- one round more
pub rounds_more : (h ws : List ℕ) (t : ℕ)
    → rounds h ws (t + 1)
    ≡ round (rounds h ws t) (slice_index round_constants t) (slice_index ws t)
unfolding rounds
rounds_more h ws t = rw add-one refl

-- no block
pub hash_after_none : (h p : List ℕ) → hash_after h p 0 ≡ h
unfolding hash_after
hash_after_none h p = refl

-- one block more
pub hash_after_more : (h p : List ℕ) (n : ℕ)
    → hash_after h p (n + 1) ≡ compress (hash_after h p n) (block_at p n)
unfolding hash_after
hash_after_more h p n = rw add-one refl

-- A word that was read at a block's byte is the word in its lane.
pub lane-word : (p : List ℕ) (j t s w : ℕ) → w < 2 ^ 32 → w ≡ word_at p s → t < 16
    → s ≡ j * 64 + 4 * t → w % 2 ^ 32 ≡ scheduled p j t
lane-word p j t s w fits is lt e = mod-eq_of_lt fits ∙ is ∙ scheduled-first p j t s lt e

-- a part of what a list begins with
pub part-of : (b x : List ℕ) (k a w : ℕ) → take k b ≡ x → a + w ≤ k
    → take w (drop a b) ≡ take w (drop a x)
part-of b x k a w begins le =
    let all : k ≡ a + (k - a) = omega arith in
    rw (← begins, all, drop-take a (k - a) b)
    (sym (take-take w (k - a) (drop a b) (omega arith)))

-- Blocks after the first n, with which q begins.
pub hash_after-joined : (h p q : List ℕ) (n k : ℕ)
    → take (k * 64) q ≡ take (k * 64) (drop (n * 64) p)
    → hash_after (hash_after h p n) q k ≡ hash_after h p (n + k)
unfolding hash_after
hash_after-joined h p q n zero is = rw add-zero refl
hash_after-joined h p q n (suc k) is =
    let rest : List ℕ = drop (n * 64) p in
    let part = λ (a w : ℕ) (le : a + w ≤ suc k * 64). part-of q _ (suc k * 64) a w is le
    ∙ sym (part-of rest _ (suc k * 64) a w refl le) in
    let next : n + suc k ≡ suc (n + k) = omega arith in
    let from : n * 64 + k * 64 ≡ (n + k) * 64 = omega arith in
    rw (
      next,
      hash_after-joined h p q n k (part 0 (k * 64) (omega arith)),
      part (k * 64) 64 (omega arith),
      drop-drop (k * 64) (n * 64) p,
      from,
    ) refl

-- Blocks of p from the first n on: those that x begins with, and then those that y begins with.
pub hash_after-twice : (h p x y : List ℕ) (n i k all : ℕ) → all ≡ n + i + k
    → take (i * 64) x ≡ take (i * 64) (drop (n * 64) p)
    → take (k * 64) y ≡ take (k * 64) (drop ((n + i) * 64) p)
    → hash_after (hash_after (hash_after h p n) x i) y k ≡ hash_after h p all
hash_after-twice h p x y n i k all sum one two =
    rw (sum, hash_after-joined h p x n i one) (hash_after-joined h p y (n + i) k two)
