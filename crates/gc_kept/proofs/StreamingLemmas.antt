-- Pieces that follow one another.
use Rattle.gc_kept.proofs.Names.{refl, take_rest, ◌≡◌, ℕ, ◌+◌, ◌-◌, ◌≤◌, List, ◌++◌, length, take, drop, flat_map, sym, ◌∙◌, append_assoc, drop-drop, arith, length-append, length-drop, length-take-le, flat_map-append, All-append, put_mid, GarblesPiece, EvaluatesPiece, IsRowPair, row_bytes, IsFileAt, GarblerWith, MakesPiece, EvaluatorWith, UsesRows}
use Rattle.gc_kept.proofs.GarblingsLemmas.{put_after}
use Rattle.gc_kept.proofs.PieceLemmas.{put_rest, length_rows}

pub length-put_rest : (n : ℕ) (buffer part : List ℕ) → n ≤ length buffer
    → length part ≡ length (take (length buffer - n) (drop n buffer))
    → length (put_mid n (length buffer - n) buffer part) ≡ length buffer
length-put_rest n buffer part within same =
    rw (put_rest n buffer part within, length-append (take n buffer) part, same, take_rest buffer n)
    (omega (arith, length-take-le n buffer within, length-drop n buffer))

-- One more piece is made, and its bytes are written after those before.
module _ (a b d : GarblerWith) (old mid part : List ℕ) (done more : ℕ)
    (one : MakesPiece a b old mid done)
    (two : MakesPiece b d (take (length mid - done) (drop done mid)) part more)
    (within : done ≤ length mid) where
  pieces-garbled : GarblesPiece a.circuit a.garbler (one.piece ++ two.piece) d.garbler
  pieces-garbled given rows so =
      rw (← append_assoc rows one.piece two.piece, ← one.circuit)
      (two.garbled given (rows ++ one.piece) (rw one.circuit (one.garbled given rows so)))

  pieces-written : IsFileAt (flat_map row_bytes (one.piece ++ two.piece)) old
      (put_mid done (length mid - done) mid part)
  pieces-written =
      rw flat_map-append (put_after (flat_map row_bytes one.piece) _ old mid _ done
      (one.count ∙ sym (length_rows one.piece)) one.buffer (rw (
        put_rest done mid part within,
        two.buffer,
        take_rest mid done,
        drop-drop (length (flat_map row_bytes two.piece)) done mid,
        append_assoc (take done mid) (flat_map row_bytes two.piece),
      ) refl))

  pub makes-more : MakesPiece a d old (put_mid done (length mid - done) mid part) (done + more)
  makes-more = record {
    circuit = two.circuit ∙ one.circuit;
    offset = two.offset ∙ one.offset;
    first = two.first ∙ one.first;
    piece = one.piece ++ two.piece;
    garbled = pieces-garbled;
    made = omega (arith, length-append one.piece two.piece);
    count = omega (arith, length-append one.piece two.piece);
    buffer = pieces-written;
  }

-- More row pairs are used.
module _ (a b d : EvaluatorWith) (bytes more : List ℕ) (one : UsesRows a b bytes)
    (two : UsesRows b d more) where
  pieces-evaluated : EvaluatesPiece a.circuit a.evaluator (one.piece ++ two.piece) d.evaluator
  pieces-evaluated inputs rows so =
      rw (← append_assoc rows one.piece two.piece, ← one.circuit)
      (two.evaluated inputs (rows ++ one.piece) (rw one.circuit (one.evaluated inputs rows so)))

  pub uses-more : UsesRows a d (bytes ++ more)
  uses-more = record {
    circuit = two.circuit ∙ one.circuit;
    first = two.first ∙ one.first;
    piece = one.piece ++ two.piece;
    piece_is = record {
      spelled = rw (one.piece_is.spelled, two.piece_is.spelled)
          (sym (flat_map-append row_bytes one.piece two.piece));
      each = All-append IsRowPair one.piece two.piece one.piece_is.each two.piece_is.each;
    };
    evaluated = pieces-evaluated;
    used = omega (arith, length-append one.piece two.piece);
    left = two.left;
  }
