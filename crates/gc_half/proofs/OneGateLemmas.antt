-- The labels that an operation reads look at the wires that it reads alone, and gates other than AND at no number.
use Rattle.gc_half.proofs.Names.{◌≡◌, ℕ, List, rules, Operation, And, is_and, false, EachRead, RowPair, first_read, second_read, gate_zero, gate_rows, with_row_pair, hash}

pub first_read-local : (u v : ℕ → ℕ) (op : Operation) → EachRead (λ w. u w ≡ v w) op
    → first_read u op ≡ first_read v op
first_read-local u v op h = search rules

pub second_read-local : (u v : ℕ → ℕ) (op : Operation) → EachRead (λ w. u w ≡ v w) op
    → second_read u op ≡ second_read v op
second_read-local u v op h = search rules

-- A gate other than AND has the same label whatever its number, and no row pair.
pub free_gate : (numbered : ℕ → ℕ → ℕ) (r k k' : ℕ) (rows : List RowPair) (op : Operation) (a b : ℕ)
    → ((x y : ℕ) → op ≡ And x y → ⊥)
    → (gate_zero hash r k op a b ≡ gate_zero numbered r k' op a b)
    × (rows ≡ with_row_pair rows (gate_rows numbered r k' op a b))
free_gate numbered r k k' rows op a b other = search rules

pub not_and : (op : Operation) → ((x y : ℕ) → op ≡ And x y → ⊥) → is_and op ≡ false
not_and op other = search rules
