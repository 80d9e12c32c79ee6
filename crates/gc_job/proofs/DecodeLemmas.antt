-- Decoding, one label after another, and recognising labels.
use Rattle.gc_job.proofs.Names.{get_or_read, ◌≡◌, ℕ, ◌+◌, ◌-◌, ◌<◌, ◌≤◌, ◌++◌, List, [], ◌∷◌, Bool, false, not, length, length-take, length-drop, take, drop, get_or, slice_get, slice_index, Some, IsTrue, ◌↔◌, eqb, inl, inr, refl, sym, ap, ◌∙◌, arith, cases_eq, nat_tests, slice_get_read, xor, colour, hash, output_tweak, decode, IsRecognised, AreRecognised, ◌&&◌, cases_Bool, take_more, length-take-le, get_or-take, get_or-drop, IsKnownUntil}
use Rattle.std.proofs.Math.Bool.{beq}
use Rattle.std.specs.Int.{from_bool}
use Rattle.gc_file.specs.declared.parts.EntryPair.{EntryPair}

decode-push : (bits : List Bool) (labels : List ℕ) (b : Bool) (l : ℕ)
    → length bits ≡ length labels
    → decode (bits ++ b ∷ []) (labels ++ l ∷ []) ≡ decode bits labels ++ xor b (colour l) ∷ []
decode-push [] [] b l same = refl
decode-push [] (m ∷ labels) b l same = absurd (omega (arith, same))
decode-push (a ∷ bits) [] b l same = absurd (omega (arith, same))
decode-push (a ∷ bits) (m ∷ labels) b l same =
    ap (λ ds. xor a (colour m) ∷ ds) (decode-push bits labels b l (omega (arith, same)))

-- One more label is decoded.
pub decode_next : (bits : List Bool) (labels : List ℕ) (i : ℕ) (label : ℕ) (done : List Bool)
    → i < length bits → i < length labels → label ≡ get_or labels i label →
    done ≡ decode (take i bits) (take i labels) →
    done ++ not (beq (get_or bits i false) (colour label)) ∷ []
    ≡ decode (take (i + 1) bits) (take (i + 1) labels)
decode_next bits labels i label done in_bits in_labels at is =
    rw (
      is,
      as_xor (get_or bits i false) (colour label),
      take_more bits i false in_bits,
      take_more labels i label in_labels,
      ← at,
    ) (sym (decode-push (take i bits) (take i labels) (get_or bits i false) label
    (length-take-le i bits (omega arith) ∙ sym (length-take-le i labels (omega arith)))))
  where
    as_xor : (a b : Bool) → not (beq a b) ≡ xor a b
    as_xor a b = grind arith

-- A hash by its place among those of this part.
pub hash_in_part : (and_gates : ℕ) (labels hashes : List ℕ) (first end i label hashed : ℕ)
    → first ≤ i → i < end → end ≤ length labels → i - first < length hashes
    → label ≡ get_or labels i label
    → hashed ≡ get_or hashes (i - first) hashed
    → ((j l : ℕ) → slice_get (take (end - first) (drop first labels)) j ≡ Some l
    → slice_index hashes j ≡ hash l (output_tweak and_gates (first + j)))
    → hashed ≡ hash label (output_tweak and_gates i)
hash_in_part and_gates labels hashes first end i label hashed from below within inside at
    read each =
    let part = take (end - first) (drop first labels) in
    let place : first + (i - first) ≡ i = omega arith in
    let same : label ≡ get_or part (i - first) label =
    rw (
      get_or-take (end - first) (drop first labels) (i - first) label (omega arith),
      get_or-drop first labels (i - first) label,
      place,
    ) at in
    let found = slice_get_read part (length part) (i - first) label refl
    (omega (arith, length-take (end - first) (drop first labels), length-drop first labels)) same in
    rw place at (get_or_read hashes (i - first) hashed inside read 0 ∙ each (i - first) label found)

-- One more label is recognised.
pub recognised_more : (and_gates : ℕ) (entries : List EntryPair) (labels : List ℕ) (i label : ℕ)
    → slice_get labels i ≡ Some label → IsRecognised and_gates entries i label
    → AreRecognised and_gates entries labels i → AreRecognised and_gates entries labels (i + 1)
recognised_more and_gates entries labels i label at known before k l low got =
    elim (cases_eq k i) [
      | inl same ↦ let is : l ≡ label = cc in rw (same, is) known
      | inr other ↦ before k l (omega arith) got
    ]

-- The labels are compared as far as the next output.
pub known_more : (and_gates : ℕ) (entries : List EntryPair) (labels : List ℕ) (i known label : ℕ)
    (is_known : Bool)
    → slice_get labels i ≡ Some label
    → (IsTrue is_known ↔ IsRecognised and_gates entries i label)
    → IsKnownUntil and_gates entries labels i known
    → IsKnownUntil and_gates entries labels (i + 1) (known + from_bool (eqb known i && is_known))
known_more and_gates entries labels i known label is_known at is before =
    elim (cases_eq known i) [
      | inl all ↦ elim (cases_Bool is_known) [
        | inl recognised ↦
            let one : known + from_bool (eqb known i && is_known) ≡ i + 1 =
            grind (arith, nat_tests) in
            rw one (record {
              within = omega arith;
              before = recognised_more and_gates entries labels i label at (is.0 recognised)
                  (rw all at before.before);
              next = λ past. absurd (omega arith);
            })
        | inr unknown ↦
            let none : known + from_bool (eqb known i && is_known) ≡ i = grind (arith, nat_tests) in
            rw none (record {
              within = omega arith;
              before = rw all at before.before;
              next = λ below. record {
                label = label;
                at = at;
                unknown = λ is_so. let differs = is.1 is_so in cc;
                before = rw all at before.before;
              };
            })
      ]
      | inr some ↦
          let same : known + from_bool (eqb known i && is_known) ≡ known =
          grind (arith, nat_tests) in
          let below : known < i = omega (arith, before.within) in
          rw same (record {
            within = omega arith;
            before = before.before;
            next = λ within. before.next below;
          })
    ]
