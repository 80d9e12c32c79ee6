-- Bytes that are put behind the parts of a file, each part to its size.
use Rattle.gc_file.proofs.Names.{◌≡◌, ℕ, ◌+◌, ◌-◌, ◌<◌, ◌≤◌, List, [], ◌∷◌, ◌++◌, length, take, drop, refl, ◌∙◌, append_assoc, length-append, arith, IsFilled, IsCutUp, take-append-drop, length-take, length-drop}

-- A list of no elements is empty.
pub empty_list : {X : Type 0} (xs : List X) → length xs ≡ 0 → xs ≡ []
empty_list [] h = refl
empty_list (x ∷ xs) h = absurd (omega arith)

-- What a part of this size takes of a piece: it isn't overfilled. Where bytes are left it is full.
pub record Takes (size had took left piece : ℕ) : Type 0 where
  pub fits : had + took ≤ size
  pub full : 0 < left → had + took ≡ size
  pub all : took + left ≡ piece

takes : (size : ℕ) (part piece : List ℕ) {front : List ℕ} → length part ≤ size
    → front ≡ take (size - length part) piece
    → Takes size (length part) (length front) (length (drop (size - length part) piece))
    (length piece)
takes size part piece fits is =
    let took = length-take (size - length part) piece in
    let left = length-drop (size - length part) piece in
    rw is (grind arith)

-- Bytes go in front of a rest that is empty.
in_front : (rest q : List ℕ) → (0 < length q → length rest ≡ 0) → (more : List ℕ)
    → rest ++ (q ++ more) ≡ q ++ (rest ++ more)
in_front rest [] none more = refl
in_front rest (x ∷ q) none more = rw (empty_list rest (none (omega arith))) refl

-- A piece is cut up into what each part lacks, and what is left.
module _ {row_size decode_size entry_size : ℕ} {r d e t : List ℕ}
    (filled : IsFilled row_size decode_size entry_size r d e t) {piece q1 q2 q3 q4 left : List ℕ}
    (cuts : IsCutUp (row_size - length r) (decode_size - length d) (entry_size - length e)
    (32 - length t) piece q1 q2 q3 q4 left) where
  abbrev after_rows : List ℕ
  after_rows = drop (row_size - length r) piece

  abbrev after_decode : List ℕ
  after_decode = drop (decode_size - length d) after_rows

  abbrev after_entries : List ℕ
  after_entries = drop (entry_size - length e) after_decode

  pub takes_rows : Takes row_size (length r) (length q1) (length after_rows) (length piece)
  takes_rows = takes row_size r piece filled.rows_fit cuts.rows

  pub takes_decode : Takes decode_size (length d) (length q2) (length after_decode)
      (length after_rows)
  takes_decode = takes decode_size d after_rows filled.decode_fits cuts.decode

  pub takes_entries : Takes entry_size (length e) (length q3) (length after_entries)
      (length after_decode)
  takes_entries = takes entry_size e after_decode filled.entries_fit cuts.entries

  pub takes_trailer : Takes 32 (length t) (length q4) (length left) (length after_entries)
  takes_trailer = rw cuts.rest (takes 32 t after_entries filled.trailer_fits cuts.trailer)

  -- Each part takes its bytes of the piece.
  pub filled_more : IsFilled row_size decode_size entry_size (r ++ q1) (d ++ q2) (e ++ q3) (t ++ q4)
  filled_more =
      let t1 = takes_rows in let t2 = takes_decode in
      let t3 = takes_entries in let t4 = takes_trailer in
      let a1 = length-append r q1 in let a2 = length-append d q2 in
      let a3 = length-append e q3 in let a4 = length-append t q4 in
      grind arith

  -- What is left of the piece is left only where the trailer is full.
  pub left_over : 0 < length left → length (t ++ q4) ≡ 32
  left_over some = length-append t q4 ∙ takes_trailer.full some

  whole_piece : piece ≡ q1 ++ (q2 ++ (q3 ++ (q4 ++ left)))
  whole_piece =
      rw (cuts.rows, cuts.decode, cuts.entries, cuts.trailer, cuts.rest) (simp take-append-drop)

  -- The parts and the piece are the parts with more, and what is left: bytes of a part go in front of the later parts,
  -- which are still empty then.
  pub whole_more : (h : List ℕ) → h ++ r ++ d ++ e ++ t ++ piece
      ≡ h ++ (r ++ q1) ++ (d ++ q2) ++ (e ++ q3) ++ (t ++ q4) ++ left
  whole_more h =
      let t1 = takes_rows in let t2 = takes_decode in let t3 = takes_entries in
      rw whole_piece (simp (
        append_assoc,
        in_front d q1 (λ some. grind arith),
        in_front e q1 (λ some. grind arith),
        in_front t q1 (λ some. grind arith),
        in_front e q2 (λ some. grind arith),
        in_front t q2 (λ some. grind arith),
        in_front t q3 (λ some. grind arith),
      ))

  -- So are the parts before the trailer, with their bytes of the piece.
  pub message_more : (h : List ℕ) → h ++ r ++ d ++ e ++ q1 ++ q2 ++ q3
      ≡ h ++ (r ++ q1) ++ (d ++ q2) ++ (e ++ q3)
  message_more h =
      let t1 = takes_rows in let t2 = takes_decode in
      simp (
        append_assoc,
        in_front d q1 (λ some. grind arith),
        in_front e q1 (λ some. grind arith),
        in_front e q2 (λ some. grind arith),
      )
