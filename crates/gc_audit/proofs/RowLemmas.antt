-- Row pairs in bytes, and the first that differs, from the first mismatch.
use Rattle.gc_audit.proofs.Names.{◌≡◌, ℕ, zero, suc, ◌+◌, ◌*◌, ◌<◌, ◌≤◌, List, [], ◌∷◌, length, take, get_or, slice_get, Some, sym, ap, ◌∙◌, arith, slice_get_within, slice_get-get_or, get_or_from_slice_get, Netlist, Mismatch, IsFirstMismatch, row_at, drop, flat_map, All, ◌++◌, take_at, append-nil, RowPair, IsRowPair, row_bytes, length-row_bytes, length-pairs}
use Rattle.gc_audit.specs.Rows.{DifferIn, IsAndGate, IsRowDifference}
use Rattle.std.proofs.Math.Seq.{drop-append-add}
use Rattle.gc_file.proofs.ItemLemmas.{row_of, row_spelling}
use Rattle.gc_audit.specs.declared.rows.RowDifference.{RowDifference}
use Rattle.gc_audit.proofs.DifferenceLemmas.{differ_first}

-- The bytes of the row pair at a place,
bytes_at : (rows : List RowPair) (i : ℕ) (p : RowPair) → slice_get rows i ≡ Some p
    → take 32 (drop (32 * i) (flat_map row_bytes rows)) ≡ row_bytes p
bytes_at [] i p at = absurd (omega (arith, slice_get_within {A = RowPair} [] i p at))
bytes_at (q ∷ rows) zero p at =
    let same : q ≡ p = cc at in
    take_at (row_bytes q) (flat_map row_bytes rows) 32 (length-row_bytes q) ∙ ap row_bytes same
bytes_at (q ∷ rows) (suc i) p at =
    let place : 32 * suc i ≡ length (row_bytes q) + 32 * i = omega (arith, length-row_bytes q) in
    ap (λ n. take 32 (drop n (row_bytes q ++ flat_map row_bytes rows))) place
    ∙ ap (take 32) (drop-append-add (row_bytes q) (flat_map row_bytes rows) (32 * i))
    ∙ bytes_at rows i p at

-- and the row pair that has these bytes.
pub row_there : (rows : List RowPair) (i : ℕ) (row : RowPair) → All IsRowPair rows → IsRowPair row
    → i < length rows → take 32 (drop (32 * i) (flat_map row_bytes rows)) ≡ row_bytes row
    → slice_get rows i ≡ Some row
row_there rows i row each is within read =
    let there = get_or rows i row in
    let at = slice_get-get_or rows i row within in
    let same : there ≡ row = sym (row_spelling.back there (each i row within))
    ∙ ap row_of (sym (bytes_at rows i there at) ∙ read) ∙ row_spelling.back row is in
    at ∙ ap Some same

-- The row pair that is read alone from its bytes.
pub row_read : (rows : List RowPair) (i : ℕ) (read : List RowPair) (row : RowPair) (bytes : List ℕ)
    → bytes ≡ flat_map row_bytes rows → All IsRowPair rows → 32 * i + 32 ≤ length bytes
    → length read ≡ 1 → row ≡ get_or read 0 row → All IsRowPair read
    → flat_map row_bytes read ≡ take 32 (drop (32 * i) bytes) → slice_get rows i ≡ Some row
row_read rows i [] row bytes spelled each within one at are same = absurd (omega arith)
row_read rows i (p ∷ q ∷ more) row bytes spelled each within one at are same =
    absurd (omega arith)
row_read rows i (p ∷ []) row bytes spelled each within one at are same =
    let long = length-pairs row_bytes length-row_bytes rows in
    let is : IsRowPair row = rw at (are 0 p (omega arith)) in
    row_there rows i row each is (omega (arith, within, ap length spelled, long))
    (ap (λ b. take 32 (drop (32 * i) b)) (sym spelled) ∙ sym same ∙ append-nil (row_bytes p)
    ∙ ap row_bytes (sym at))

module _ (c : Netlist) (filed garbled : List RowPair) (m : Mismatch)
    (is : IsFirstMismatch filed garbled m) where
  -- what is at a place
  at_place : (rows : List RowPair) (p : RowPair) → slice_get rows m.place ≡ Some p
      → row_at rows m.place ≡ p
  at_place rows p there =
      get_or_from_slice_get rows m.place p (record { generator = 0; evaluator = 0 }) there

  pub row_found : (d : RowDifference) → d.number ≡ m.place → IsAndGate c m.place d.gate d.wire
      → DifferIn m.given m.made d.rows → IsRowDifference c filed garbled d
  row_found d number gate rows = rw number (record {
    first = differ_first filed garbled _ _ _ is.before is.given_there is.made_there is.differ;
    gate = gate;
    rows = rw (at_place filed m.given is.given_there, at_place garbled m.made is.made_there) rows;
  })
