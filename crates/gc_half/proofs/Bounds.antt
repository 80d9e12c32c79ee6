-- Hashes, zero labels, rows and active labels are 16 bytes long: as numbers they are below 2 ^ 128.
use Rattle.gc_half.proofs.Names.{◌≡◌, ℕ, zero, suc, inl, inr, ◌^◌, ◌<◌, Bool, List, length, slice_get, Some, arith, nat_tests, Operation, Netlist, and_number, ◌⊕◌, times, offset_of, RowPair, zero_of, zero_rule, input_zero, values_after, label_of_bytes, hash, slice_get_cases}
use Rattle.std.proofs.lemmas.Nat.{xor_lt}
use Rattle.sha2.specs.Sha256.{sha256, digest_bytes}
use Rattle.gc_label.proofs.SeedLemmas.{offset_of-lt, input_label_of-lt}
use Rattle.gc_half.specs.Canonical.{zero_label_of, row_pairs_of}
use Rattle.gc_half.proofs.RowLemmas.{rows_after-each}

-- The number is that of 16 bytes.
abbrev pub IsSmall : ℕ → Type 0
IsSmall label = label < 2 ^ 128

pub IsSmall-hash : (label tweak : ℕ) → IsSmall (hash label tweak)
unfolding hash sha256 digest_bytes label_of_bytes
IsSmall-hash label tweak = omega arith

pub IsSmall-⊕ : (a b : ℕ) → IsSmall a → IsSmall b → IsSmall (a ⊕ b)
IsSmall-⊕ a b ha hb = xor_lt 128 a b ha hb

pub IsSmall-times : (bit : Bool) (label : ℕ) → IsSmall label → IsSmall (times bit label)
IsSmall-times bit label h = grind arith

ruleset small = (IsSmall-hash, IsSmall-⊕, IsSmall-times)

IsSmall-zero_of : (r : ℕ) → IsSmall r → (label : ℕ → ℕ) → ((w : ℕ) → IsSmall (label w))
    → (k : ℕ) (op : Operation) → IsSmall (zero_of hash r label k op)
IsSmall-zero_of r fits label h k op = grind (arith, small, h)

module _ (c : Netlist) (seed : List ℕ) where
  small-after : (n w : ℕ)
      → IsSmall (values_after (zero_rule hash (offset_of seed) c) c (input_zero c seed) n w)
  unfolding values_after
  small-after zero w = grind (arith, nat_tests, input_label_of-lt seed w)
  small-after (suc n) w = elim (slice_get_cases c.gates n).1 [
    | inl (g, _, at, _) ↦
        let here = IsSmall-zero_of (offset_of seed) (offset_of-lt seed) _ (small-after n)
        (and_number c n) g.operation in
        rw at (grind (arith, nat_tests, small-after n w))
    | inr (_, none) ↦ rw none (small-after n w)
  ]

  pub IsSmall-zero_label_of : (w : ℕ) → IsSmall (zero_label_of c seed w)
  unfolding zero_label_of
  IsSmall-zero_label_of = small-after (length c.gates)

  pub IsSmall-row_pairs_of : (k : ℕ) (pair : RowPair)
      → slice_get (row_pairs_of c seed) k ≡ Some pair
      → IsSmall pair.generator × IsSmall pair.evaluator
  unfolding row_pairs_of
  IsSmall-row_pairs_of =
      rows_after-each hash (offset_of seed) c (zero_label_of c seed)
      (λ pair. IsSmall pair.generator × IsSmall pair.evaluator)
      (λ k a b. search (small, IsSmall-zero_label_of, offset_of-lt)) (length c.gates)
