-- Tables of labels where AND gates wait.
use Rattle.gc_half.proofs.Names.{◌≡◌, ℕ, false, List, [], ◌∷◌, set, slice_index, refl, ap, ◌∙◌, arith, nat_tests, Operation, reads, first_read, second_read, get_or-set_other, NoneSets}
use Rattle.std.specs.List.{list_any}
use Rattle.std.proofs.lemmas.List.{set_comm}
use Rattle.gc_half.specs.declared.waiting.WaitingGate.{WaitingGate}
use Rattle.gc_half.specs.Waiting.{with_waiting}

module _ {T : Type 0} (label : T → ℕ) where
  -- A label may be put first, and the gates made then, where they set other wires.
  pub with_waiting_put : (labels : List ℕ) (ws : List (WaitingGate T)) (wire new : ℕ)
      → NoneSets wire ws
      → with_waiting label (set labels wire new) ws ≡ set (with_waiting label labels ws) wire new
  with_waiting_put labels [] wire new others = refl
  with_waiting_put labels (x ∷ ws) wire new others =
      ap (λ l. with_waiting label l ws) (set_comm labels wire x.set new (label x.gate) others.0)
      ∙ with_waiting_put (set labels x.set (label x.gate)) ws wire new others.1

  -- What an operation reads that reads no wire of theirs is there already.
  pub first_read-with_waiting : (labels : List ℕ) (ws : List (WaitingGate T)) (op : Operation)
      → list_any (λ waits. reads op waits.set) ws ≡ false
      → first_read (slice_index labels) op ≡ first_read (slice_index (with_waiting label labels ws))
      op
  first_read-with_waiting labels [] op free = refl
  first_read-with_waiting labels (x ∷ ws) op free =
      let rest = first_read-with_waiting (set labels x.set (label x.gate)) ws op in
      grind (arith, nat_tests, get_or-set_other, rest)

  pub second_read-with_waiting : (labels : List ℕ) (ws : List (WaitingGate T)) (op : Operation)
      → list_any (λ waits. reads op waits.set) ws ≡ false
      → second_read (slice_index labels) op ≡ second_read
      (slice_index (with_waiting label labels ws)) op
  second_read-with_waiting labels [] op free = refl
  second_read-with_waiting labels (x ∷ ws) op free =
      let rest = second_read-with_waiting (set labels x.set (label x.gate)) ws op in
      grind (arith, nat_tests, get_or-set_other, rest)

pub ruleset reads_with_waiting = (first_read-with_waiting, second_read-with_waiting)
