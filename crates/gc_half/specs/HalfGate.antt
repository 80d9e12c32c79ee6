-- The two halves of an AND gate, over any hash of a label and a tweak: the procedures GbAnd and Ev of "Two Halves Make
-- a Whole" (Zahur, Rosulek and Evans, 2015).
use Rattle.std.specs.Prelude.{ℕ, ◌+◌, ◌*◌, List, [], ◌∷◌}
use Rattle.gc_label.specs.Label.{◌⊕◌, colour, times}
use Rattle.gc_half.specs.declared.garbling.GarbledAnd.{GarbledAnd}

-- The gate is the k-th AND gate in file order, counted from 0. Its tweaks are 2 * k and 2 * k + 1.
module _ (hash : ℕ → ℕ → ℕ) (k : ℕ) where
  -- Garbling, from the offset r and the zero labels a and b of the wires read. First the generator's row,
  abbrev pub generator_row : ℕ → ℕ → ℕ → ℕ
  generator_row r a b = hash a (2 * k) ⊕ hash (a ⊕ r) (2 * k) ⊕ times (colour b) r

  -- the evaluator's row,
  abbrev pub evaluator_row : ℕ → ℕ → ℕ → ℕ
  evaluator_row r a b = hash b (2 * k + 1) ⊕ hash (b ⊕ r) (2 * k + 1) ⊕ a

  -- the zero label of the generator's half gate,
  abbrev pub generator_half : ℕ → ℕ → ℕ → ℕ
  generator_half r a b = hash a (2 * k) ⊕ times (colour a) (generator_row r a b)

  -- that of the evaluator's half gate,
  abbrev pub evaluator_half : ℕ → ℕ → ℕ → ℕ
  evaluator_half r a b = hash b (2 * k + 1) ⊕ times (colour b) (evaluator_row r a b ⊕ a)

  -- and the zero label of the wire set, their sum.
  abbrev pub and_zero : ℕ → ℕ → ℕ → ℕ
  and_zero r a b = generator_half r a b ⊕ evaluator_half r a b

  -- What garbling gives, together: this label and the two rows.
  abbrev pub and_garbled : ℕ → ℕ → ℕ → GarbledAnd
  and_garbled r a b = record {
    zero_label = and_zero r a b;
    rows = record { generator = generator_row r a b; evaluator = evaluator_row r a b };
  }

  -- The four hashes that it takes.
  abbrev pub and_hashes : ℕ → ℕ → ℕ → List ℕ
  and_hashes r a b =
      hash a (2 * k) ∷ hash (a ⊕ r) (2 * k) ∷ hash b (2 * k + 1) ∷ hash (b ⊕ r) (2 * k + 1) ∷ []

  -- Evaluation: the active label of the wire set, from the two rows and the active labels a and b of the wires read.
  abbrev pub and_active : ℕ → ℕ → ℕ → ℕ → ℕ
  and_active generator evaluator a b =
      hash a (2 * k) ⊕ times (colour a) generator
      ⊕ (hash b (2 * k + 1) ⊕ times (colour b) (evaluator ⊕ a))
