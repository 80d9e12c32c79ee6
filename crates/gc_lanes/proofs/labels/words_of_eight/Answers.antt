use Rattle.gc_lanes.proofs.Names.{List, [], ◌∷◌, ◌++◌, ℕ, ◌∙◌, column}
use Rattle.gc_lanes.proofs.Turning.{below_eight, low_words-fit}
use Rattle.gc_lanes.proofs.labels.words_of_eight.Goals as goal

-- the columns of four rows, the first four joined with the others
abbrev columns : List ℕ → List ℕ → List ℕ → List ℕ → List (List ℕ)
columns p q r s = (column p q r s 0 ++ column p q r s 4) ∷ (column p q r s 1 ++ column p q r s 5)
    ∷ (column p q r s 2 ++ column p q r s 6) ∷ (column p q r s 3 ++ column p q r s 7) ∷ []

pub returns : goal.returns
returns c =
    rw (c.turned_eight.ensures ∙ (λ t. columns (c.words_of_two.ensures t)
    (c.words_of_two-2.ensures t) (c.words_of_two-3.ensures t) (c.words_of_two-4.ensures t)))
    (below_eight _
    (low_words-fit _) (low_words-fit _) (low_words-fit _) (low_words-fit _)
    (low_words-fit _) (low_words-fit _) (low_words-fit _) (low_words-fit _))
