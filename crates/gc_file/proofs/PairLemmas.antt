-- Pairs of labels and their bytes.
use Rattle.gc_file.proofs.Names.{◌≡◌, ℕ, ◌+◌, ◌-◌, ◌*◌, ◌%◌, ◌<◌, List, [], ◌∷◌, ◌++◌, length, take, drop, flat_map, append-nil, append_assoc, length-append, All, refl, ap, arith, take-add, flat_map-append, All-push, bytes_by}
use Rattle.gc_file.proofs.LabelBytesLemmas.{length-bytes_by}
use Rattle.gc_file.proofs.PieceLemmas.{empty_list}

-- The bytes of items, the same number for each.
pub length-flat_map : {X A : Type 0} (f : X → List A) (n : ℕ) → ((x : X) → length (f x) ≡ n)
    → (xs : List X) → length (flat_map f xs) ≡ n * length xs
length-flat_map f n each [] = omega arith
length-flat_map f n each (x ∷ xs) =
    simp (length-append, each, length-flat_map f n each xs) (omega arith)

-- The bytes of pairs, 32 each.
pub length-pairs : {P : Type 0} (bytes_of : P → List ℕ) → ((p : P) → length (bytes_of p) ≡ 32)
    → (pairs : List P) → length (flat_map bytes_of pairs) ≡ 32 * length pairs
length-pairs bytes_of size pairs = length-flat_map bytes_of 32 size pairs

-- Items are read from the bytes up to a place, and stand behind those of the bytes before.
pub record AreRead {P : Type 0} (bytes_of : P → List ℕ) (IsItem : P → Type 0)
    (before bytes : List ℕ) (at : ℕ) (items : List P) : Type 0 where
  pub spelled : flat_map bytes_of items ≡ before ++ take at bytes
  pub each : All IsItem items

-- One more item.
pub AreRead-more : {P : Type 0} {bytes_of : P → List ℕ} {IsItem : P → Type 0}
    {before bytes : List ℕ} {at : ℕ} {items more : List P} {item : P} (size next : ℕ)
    → AreRead bytes_of IsItem before bytes at items → more ≡ items ++ (item ∷ [])
    → bytes_of item ≡ take (at + size - at) (drop at bytes) → IsItem item → at + size ≡ next
    → AreRead bytes_of IsItem before bytes next more
AreRead-more {IsItem = IsItem} {bytes = bytes} {at = at} size next read pushed is item on =
    let room : at + size - at ≡ size = omega arith in
    rw (pushed, ← on) (record {
      spelled = rw (flat_map-append, append-nil, read.spelled, is, room, append_assoc, take-add) refl;
      each = All-push IsItem _ _ read.each item;
    })

module _ {P : Type 0} (labels : P → ℕ × ℕ) (pairs : List P) (partial : List ℕ) where
  -- How many bytes pairs have, and bytes of another.
  pub length-view : length (flat_map (bytes_by labels) pairs ++ partial)
      ≡ 32 * length pairs + length partial
  length-view = simp (length-append, length-pairs (bytes_by labels) (length-bytes_by labels))

  -- Whole pairs leave no bytes of another.
  pub whole_pairs : (bytes : List ℕ) → flat_map (bytes_by labels) pairs ++ partial ≡ bytes
      → length partial < 32 → length bytes % 32 ≡ 0 → flat_map (bytes_by labels) pairs ≡ bytes
  whole_pairs bytes is short whole =
      let none : length partial ≡ 0 = omega (arith, length-view, ap length is) in
      rw (empty_list partial none, append-nil) at is
