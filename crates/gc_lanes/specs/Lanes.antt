-- Labels and messages by their words, one of them in each lane of vectors.
use Rattle.std.specs.Prelude.{◌+◌, ◌*◌, ◌/◌, ◌%◌, ◌^◌, ◌∷◌, [], ℕ, List, map, slice_index}
use Rattle.sha2.specs.Sha256.{word_at}

-- The words that lane j holds in each of the vectors, where `lane` says which word each lane of a vector holds.
abbrev pub words_of_lane : {V : Type 0} → (V → ℕ → ℕ) → ℕ → List V → List ℕ
words_of_lane lane j = map (λ v. lane v j)

-- The word that lane j of a vector of words holds. The remainder is that word itself, and below 2 ^ 32 of any list.
abbrev pub lane : List ℕ → ℕ → ℕ
lane v j = slice_index v j % 2 ^ 32

-- The words of a label of 16 bytes, lowest first, where the label is the number that its bytes spell, the first byte
-- highest,
abbrev pub low_words : ℕ → List ℕ
low_words label =
    label % 2 ^ 32 ∷ label / 2 ^ 32 % 2 ^ 32 ∷ label / 2 ^ 64 % 2 ^ 32
    ∷ label / 2 ^ 96 % 2 ^ 32 ∷ []

-- and the label of such words.
abbrev pub label_of_low_words : List ℕ → ℕ
label_of_low_words words =
    slice_index words 0 + 2 ^ 32 * slice_index words 1 + 2 ^ 64 * slice_index words 2
    + 2 ^ 96 * slice_index words 3

-- What is at place j in each of four rows.
abbrev pub column : List ℕ → List ℕ → List ℕ → List ℕ → ℕ → List ℕ
column p q r s j = slice_index p j ∷ slice_index q j ∷ slice_index r j ∷ slice_index s j ∷ []

-- The four words of 16 bytes, the last first,
abbrev pub last_words : List ℕ → List ℕ
last_words bytes = word_at bytes 12 ∷ word_at bytes 8 ∷ word_at bytes 4 ∷ word_at bytes 0 ∷ []

-- and the two of 8 bytes.
abbrev pub first_words : List ℕ → List ℕ
first_words bytes = word_at bytes 0 ∷ word_at bytes 4 ∷ []
