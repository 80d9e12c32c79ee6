-- What putting a gate into a set of gates keeps of the set of its words.
use Rattle.gc_store.proofs.Names.{ℕ, ◌/◌, ◌≤◌, List, arith, cases_eq, Adds, IsGateSet}
use Rattle.std.proofs.lemmas.Nat.Bits.{bit_at-zero}

module _ {words filled : List ℕ} {start : ℕ} (s : IsGateSet words filled start) where
  pub insert_keeps : {more over : List ℕ} (i first : ℕ) → Adds words i more
      → Adds filled (i / 64) over → first ≤ start → first ≤ i / 64 / 64 → IsGateSet more over first
  insert_keeps i first added added_over low below = record {
    room = grind (arith, s.room, added.count, added_over.count);
    filled_at = λ k. grind (
      arith,
      cases_eq,
      s.filled_at k,
      added.here,
      added.rest k,
      added_over.here,
      added_over.others k,
      bit_at-zero,
    );
    passed = λ j before. grind (arith, added_over.rest j, s.passed j);
  }
