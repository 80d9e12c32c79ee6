-- A label and its tweak are a message of one block. A label is seen as the number that its 16 bytes spell.
use Rattle.gc_lanes.proofs.Names.{◌≡◌, ℕ, ◌^◌, ◌<◌, List, [], ◌∷◌, ◌++◌, length, get_or, replicate, slice_index, take, arith, refl, sym, get_or-map, w64, w128, from_be_bytes, to_be_bytes, to_le_bytes, IsWindow, compress, digest_bytes, first_words, hash_after, initial_hash_256, schedule, sha256, IsWindow_first, slice_index-first_words, label_of_low_words, last_words, low_words, words_of_lane}
use Rattle.gc_lanes.specs.Hash.{padded_words, tweaked_hash}

-- the block of a label and a tweak, with the padding of their 24 bytes
abbrev pub block : ℕ → ℕ → List ℕ
block label tweak =
    (to_be_bytes w128 label ++ to_le_bytes w64 tweak)
    ++ 0x80 ∷ replicate 31 0 ++ to_be_bytes w64 192

-- The words of a label are those of its bytes.
pub last_words-label : (label : ℕ) → low_words label ≡ last_words (to_be_bytes w128 label)
last_words-label label = search arith

-- The words of the label, the tweak and the padding are the window that the rounds begin with.
pub IsWindow-padded_words : (label tweak : ℕ) (words : List ℕ)
    → words ≡ padded_words (to_be_bytes w128 label) (to_le_bytes w64 tweak)
    → IsWindow words (schedule (block label tweak) 48) 16
unfolding first_words
IsWindow-padded_words label tweak words filled =
    let b = block label tweak in
    rw filled (IsWindow_first b (first_words b 16) refl (slice_index-first_words b 16))

-- The label of the first four words of a digest is what their bytes spell.
label-digest : (h : List ℕ) → slice_index h 0 < 2 ^ 32 → slice_index h 1 < 2 ^ 32
    → slice_index h 2 < 2 ^ 32 → slice_index h 3 < 2 ^ 32
    → label_of_low_words
    (slice_index h 3 ∷ slice_index h 2 ∷ slice_index h 1 ∷ slice_index h 0 ∷ [])
    ≡ from_be_bytes w128 (take 16 (digest_bytes h 8))
unfolding digest_bytes
label-digest h a b c d = omega arith

-- a word of a lane
pub lane_at : {V : Type 0} (lane : V → ℕ → ℕ) (j : ℕ) (row : List V) (k : ℕ) (d : V)
    → k < length row → lane (get_or row k d) j ≡ slice_index (words_of_lane lane j row) k
lane_at lane j row k d lt = sym (get_or-map (λ v. lane v j) row k d 0 lt)

-- The first four words of the hash value in a lane, lowest first, are those of the tweaked hash.
pub label-hash : {V : Type 0} (lane : V → ℕ → ℕ) (j : ℕ) (state : List V) (a b c d : V)
    (label tweak : ℕ) → length state ≡ 8
    → words_of_lane lane j state ≡ compress initial_hash_256 (block label tweak)
    → label_of_low_words (words_of_lane lane j
    (get_or state 3 d ∷ get_or state 2 c ∷ get_or state 1 b ∷ get_or state 0 a ∷ []))
    ≡ tweaked_hash label tweak
unfolding compress tweaked_hash sha256 hash_after
label-hash lane j state a b c d label tweak long hashed =
    let at = lane_at lane j state in
    rw (
      at 0 a (omega arith),
      at 1 b (omega arith),
      at 2 c (omega arith),
      at 3 d (omega arith),
      hashed,
    ) (label-digest _ (omega arith) (omega arith) (omega arith) (omega arith))
