-- A piece that comes after the header of a garbled file.
use Rattle.gc_file.proofs.Names.{◌≡◌, ℕ, ◌-◌, ◌<◌, List, [], ◌++◌, length, take, refl, sym, ◌∙◌, append_assoc, append-nil, length-append, subst, Option, IfSome, Bor, rules, arith, LongSha256, sha256, SpareBits, BadTrailer, Trailing, Version, One, Two, magic, output_count, LastingFault, IsHeaderInOrder, IsSpare, version_of_bytes, row_size, decode_size, entry_size, IsHashed, IsGiven, IsBody, IsCutUp, IsFilled, before_trailer, get_or-take, take_at, HoldsMessage}
use Rattle.gc_file.proofs.PieceLemmas.{empty_list, filled_more, left_over, whole_more, message_more}
use Rattle.gc_file.proofs.PlaceLemmas.{begins, spare_fault, bad_trailer_fault, more_fault}

-- The eighth byte of a magic gives its version.
pub version_of_bytes-begun : (v : Version) (bytes : List ℕ) → take 8 bytes ≡ magic v
    → version_of_bytes bytes ≡ v
unfolding version_of_bytes
version_of_bytes-begun One bytes is = rw (← get_or-take 8 bytes 7 0 (omega arith), is) refl
version_of_bytes-begun Two bytes is = rw (← get_or-take 8 bytes 7 0 (omega arith), is) refl

-- A header that is in order, with nothing behind it.
pub body_new : (v : Version) (header : List ℕ) (hasher : LongSha256) → length header ≡ 48
    → IsHeaderInOrder v header
    → HoldsMessage hasher header → IsBody header [] [] [] [] hasher
body_new v header hasher whole in_order holds = record {
  whole = whole;
  in_order = rw (version_of_bytes-begun v header (begins v header (omega arith) in_order.begun))
      in_order;
  filled = search (rules, arith);
  no_spare_bit = λ full spare. absurd (omega arith);
  hashed = record { holds = λ short. simp append-nil holds; right = λ full. absurd (omega arith) };
}

-- A hasher takes the bytes that come after a message, which are none where the trailer has begun.
pub hashed_more : {m q1 q2 q3 t : List ℕ} {hasher after : LongSha256}
    → ((p : List ℕ) → HoldsMessage hasher p → HoldsMessage after (p ++ q1 ++ q2 ++ q3))
    → (0 < length t → length (q1 ++ q2 ++ q3) ≡ 0)
    → IsHashed m t hasher → IsHashed (m ++ q1 ++ q2 ++ q3) t after
hashed_more {m} {q1} {q2} {q3} takes order hashed = record {
  holds = λ short. takes m (hashed.holds short);
  right = λ full.
      let none = empty_list (q1 ++ q2 ++ q3) (order (omega arith)) in
      let same : m ++ q1 ++ q2 ++ q3 ≡ m ++ (q1 ++ q2 ++ q3) = simp append_assoc refl in
      rw (same, none, append-nil) (hashed.right full);
}

module _ {h r d e t : List ℕ} {hasher : LongSha256} (body : IsBody h r d e t hasher)
    {piece q1 q2 q3 q4 left : List ℕ}
    (cuts : IsCutUp (row_size h - length r) (decode_size h - length d) (entry_size h - length e)
    (32 - length t) piece q1 q2 q3 q4 left) where
  -- The bytes with the piece,
  abbrev whole : List ℕ
  whole = h ++ r ++ d ++ e ++ t ++ piece

  -- the message before the trailer, with its bytes of the piece,
  abbrev message : List ℕ
  message = h ++ (r ++ q1) ++ (d ++ q2) ++ (e ++ q3)

  pub message_step : message ≡ h ++ r ++ d ++ e ++ q1 ++ q2 ++ q3
  message_step = sym (message_more body.filled cuts h)

  -- and the parts, each with its bytes.
  filled : IsFilled (row_size h) (decode_size h) (entry_size h) (r ++ q1) (d ++ q2) (e ++ q3)
      (t ++ q4)
  filled = filled_more body.filled cuts

  pub spare_step : length (d ++ q2) ≡ decode_size h → IsSpare (output_count h) (d ++ q2)
      → LastingFault whole SpareBits
  spare_step full spare =
      rw (whole_more body.filled cuts h, append_assoc)
      (spare_fault h (r ++ q1) (d ++ q2) (e ++ q3) (t ++ q4 ++ left)
      (record { header = body.whole; rows = filled.rows_first (omega arith); decode = full })
      body.in_order spare)

  pub view_step : length left ≡ 0 → message ++ (t ++ q4) ≡ whole
  view_step none = rw (whole_more body.filled cuts h, empty_list left none, append-nil) refl

  -- Where the trailer is whole and nothing is left, the bytes before the last 32 are those before the trailer.
  before_step : length (t ++ q4) ≡ 32 → length left ≡ 0 → before_trailer whole ≡ message
  before_step full none =
      let all = length-append message (t ++ q4) in
      rw (← view_step none)
      (take_at message (t ++ q4) (length (message ++ (t ++ q4)) - 32) (omega arith))

  pub given_step : (digest : Option (Bor (List ℕ)))
      → IfSome digest (λ given. given.now ≡ sha256 (before_trailer whole))
      → IsGiven digest message (t ++ q4) left
  given_step digest known = λ full none.
      subst (λ (x : List ℕ). IfSome digest (λ given. given.now ≡ sha256 x)) (before_step full none)
      known

  -- where the decode bits have no spare bit
  module _ (no_spare : length (d ++ q2) ≡ decode_size h → IsSpare (output_count h) (d ++ q2) → ⊥)
    where
      pub bad_trailer_step : length (t ++ q4) ≡ 32 → (t ++ q4 ≡ sha256 message → ⊥)
          → LastingFault whole BadTrailer
      bad_trailer_step full wrong =
          let decode = filled.decode_first (omega arith) in
          rw (whole_more body.filled cuts h, append_assoc)
          (bad_trailer_fault h (r ++ q1) (d ++ q2) (e ++ q3) (t ++ q4 ++ left)
          (record { header = body.whole; rows = filled.rows_first (omega arith); decode = decode })
          (filled.entries_first (omega arith)) body.in_order (no_spare decode)
          (omega (arith, length-append (t ++ q4) left))
          (λ right. wrong (sym (take_at (t ++ q4) left 32 full) ∙ right)))

      module _ {after : LongSha256} (hashed : IsHashed message (t ++ q4) after) where
        pub more_step : 0 < length left → LastingFault whole Trailing
        more_step some =
            let full = left_over body.filled cuts some in
            let decode = filled.decode_first (omega arith) in
            rw (whole_more body.filled cuts h, append_assoc)
            (more_fault h (r ++ q1) (d ++ q2) (e ++ q3) (t ++ q4 ++ left)
            (record { header = body.whole; rows = filled.rows_first (omega arith); decode = decode })
            (filled.entries_first (omega arith)) body.in_order (no_spare decode)
            (omega (arith, length-append (t ++ q4) left))
            (take_at (t ++ q4) left 32 full ∙ hashed.right full))

        pub body_step : IsBody h (r ++ q1) (d ++ q2) (e ++ q3) (t ++ q4) after
        body_step = record {
          whole = body.whole;
          in_order = body.in_order;
          filled = filled;
          no_spare_bit = no_spare;
          hashed = hashed;
        }
