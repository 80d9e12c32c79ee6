-- What comes of reading: what is read is spelled, or its fault is the first fault.
use Rattle.gc_netlist.proofs.CommonNames.{◌≡◌, ℕ, zero, suc, ◌+◌, ◌≤◌, ◌++◌, inl, inr, List, [], ◌∷◌, length, length-append, map, sum, append_assoc, nat_le, Option, Some, None, MatchResult, Result, Ok, Err, refl, arith, cases_Bool, nat_tests, length-map, map-append, ReadFault, MAX_VALUES, number_of, Word, Number, SpellWords, words_of_widths, ◌>>=◌, numbered, number_at, limited_at, numbers_at, widths_at, FirstFault, SideDue, LimitedDue, number_of_values, NumberDue, due_with_limit, due_as_width, no_number, bad_number, too_large, widths_exceed, gate_of_number, place_of, IsLowest, left_after, limited_left, numbers_left, widths_left, back_of, IsBack, IsMet}
use Rattle.gc_netlist.proofs.SpellingLemmas.{Spell-append, Spell-length, Spell-lengths}

-- A first fault is met at its place.
pub met : {ts left : List (List ℕ)} {e : ReadFault} {back : ℕ} (first : FirstFault ts e) →
    IsLowest first → IsBack (place_of first).spot (length ts) (length left) back →
    IsMet ts e left back (place_of first).gate (place_of first).wire
met first lowest spot =
    record { first = first; lowest = lowest; in_gate = refl; at_wire = refl; spot = spot }

-- A fault that is about no wire is met with these tokens left.
abbrev pub Met : List (List ℕ) → List (List ℕ) → Option ℕ → ReadFault → Type 0
Met ts left gate e = IsMet ts e left (back_of e) gate None

-- What comes of a step of reading: what it reads is so, or its fault is met with these left.
pub record Outcome {A : Type 0} (ts : List (List ℕ)) (gate : Option ℕ) (left : List (List ℕ))
    (r : Result A ReadFault) (Good : A → Type 0) : Type 0 where
  pub is : MatchResult r Good (Met ts left gate)

-- One step after another.
pub step : {A B : Type 0} {ts us : List (List ℕ)} {gate : Option ℕ} {Took : A → Type 0}
    {Good : B → Type 0} {r : Result A ReadFault} (f : A → Result B ReadFault)
    (next : A → List (List ℕ)) → Outcome ts gate us r Took →
    ((x : A) → Took x → Outcome ts gate (next x) (f x) Good) →
    Outcome ts gate (left_after r us next) (r >>= f) Good
step {r = Ok x} f next o k = k x o.is
step {r = Err e} f next o k = record { is = o.is }

module _ (ts : List (List ℕ)) where
  -- A number that is due.
  pub number_read : {words : List Word} (us : List (List ℕ)) (due : NumberDue words) →
      SpellWords ts words us →
      Outcome ts (gate_of_number due) us (number_at us) (λ x. SpellWords us (Number x.0 ∷ []) x.1)
  number_read {words = words} [] due s = record { is = met (no_number words due s) tt tt }
  number_read {words = words} (t ∷ us) due s = go (number_of t) refl
    where
      go : (o : Option ℕ) → number_of t ≡ o → Outcome ts (gate_of_number due) (t ∷ us)
          (numbered o us) (λ x. SpellWords (t ∷ us) (Number x.0 ∷ []) x.1)
      go (Some n) some = record { is = (some, refl) }
      go None none = record {
        is = met (bad_number words t us due s none) tt
            (omega (arith, Spell-length ts (t ∷ us) words s));
      }

  -- A number with a limit.
  pub limited_read : {words : List Word} {limit : ℕ} (us : List (List ℕ)) →
      LimitedDue words limit → SpellWords ts words us →
      Outcome ts None (limited_left us) (limited_at limit us)
      (λ x. SpellWords ts (words ++ Number x.0 ∷ []) x.1 × (x.0 ≤ limit))
  unfolding limited_at limited_left
  limited_read {words = words} {limit = limit} us due s =
      step _ _ (number_read us (due_with_limit words limit due) s) (λ n took.
      let spelled = Spell-append ts us n.1 words (Number n.0 ∷ []) s took in
      elim (cases_Bool (nat_le n.0 limit)) [
        | inl within ↦ rw within (record { is = (spelled, grind (arith, nat_tests)) })
        | inr above ↦ rw above (record {
          is = met (too_large words limit n.0 n.1 due spelled (grind (arith, nat_tests))) tt
              (omega (arith, Spell-lengths ts n.1 words (Number n.0 ∷ []) spelled));
        })
      ])

  -- The values of a side.
  module _ {wires : ℕ} {words : List Word} (side : SideDue wires words) where
    numbers_read : (count k : ℕ) (before : List ℕ) (us : List (List ℕ)) →
        count ≤ MAX_VALUES → length before + k ≡ count →
        SpellWords ts (words ++ Number count ∷ map Number before) us →
        Outcome ts None (numbers_left k us) (numbers_at k before us)
        (λ x. (length x.0 ≡ count) × SpellWords ts (words ++ Number count ∷ map Number x.0) x.1)
    unfolding numbers_at numbers_left
    numbers_read count zero before us few len s = record { is = (omega arith, s) }
    numbers_read count (suc k) before us few len s =
        step _ _ (number_read us (due_as_width wires words count before side few (omega arith)) s)
        (λ next took. numbers_read count k (before ++ next.0 ∷ []) next.1 few
        (omega (arith, length-append before (next.0 ∷ [])))
        (rw map-append (rw append_assoc at (Spell-append ts us next.1
        (words ++ Number count ∷ map Number before) (Number next.0 ∷ []) s took))))

    pub widths_read : (us : List (List ℕ)) → SpellWords ts words us →
        Outcome ts None (widths_left us) (widths_at wires us)
        (λ x. SpellWords ts (words ++ words_of_widths x.0) x.1 × (length x.0 ≤ MAX_VALUES)
        × (sum x.0 ≤ wires))
    unfolding widths_at widths_left
    widths_read us s =
        step _ _ (limited_read us (number_of_values wires words side) s)
        (λ count c. step _ _ (numbers_read count.0 count.0 [] count.1 c.1 (omega arith) c.0)
        (λ widths w.
        let spelled : SpellWords ts (words ++ words_of_widths widths.0) widths.1 = rw w.0 w.1 in
        let few : length widths.0 ≤ MAX_VALUES = omega arith in
        elim (cases_Bool (nat_le (sum widths.0) wires)) [
          | inl within ↦ rw within (record { is = (spelled, few, grind (arith, nat_tests)) })
          | inr above ↦
              let all = Spell-lengths ts widths.1 words (words_of_widths widths.0) spelled in
              rw above (record {
                is = met (widths_exceed wires words widths.0 widths.1 side few spelled
                    (grind (arith, nat_tests))) tt (omega (arith, all, length-map widths.0 Number));
              })
        ]))
