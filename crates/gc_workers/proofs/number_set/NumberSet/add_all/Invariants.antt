use Rattle.std.proofs.Common.{◌≡◌, ◌≤◌, ◌<◌, ℕ, length, get_or, bit_or}
use Rattle.gc_workers.proofs.number_set.NumberSet.add_all.Given as goal

abbrev pub invariant-loop-k : goal.invariant-loop-k
invariant-loop-k g l = record {
  count : length l.self-inside.words.items ≡ length l.initial.self-inside.words.items;
  done : (k : ℕ) → k < l.k → get_or l.self-inside.words.items k 0
      ≡ bit_or (get_or l.initial.self-inside.words.items k 0)
      (get_or l.others-inside.words.items k 0);
  left : (k : ℕ) → l.k ≤ k
      → get_or l.self-inside.words.items k 0 ≡ get_or l.initial.self-inside.words.items k 0;
}
