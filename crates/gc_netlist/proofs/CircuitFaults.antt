-- What comes of reading a circuit: it is lawful and its words are spelled, or the first fault.
use Rattle.gc_netlist.proofs.CommonNames.{◌≡◌, ℕ, zero, suc, ◌+◌, ◌-◌, ◌<◌, ◌≤◌, ◌++◌, inl, inr, List, [], ◌∷◌, length, length-append, append-nil, append_assoc, sum, Bool, true, false, Some, None, MatchResult, Result, Ok, Err, refl, sym, arith, flat_map, list_all, range_with_len, cases_eq, cases_Bool, both_ways, ReadFault, OutputUnset, MAX_GATES, MAX_WIRES, MAX_VALUES, Gate, Netlist, netlist_of, input_wires, IsSet, IsLawful, Word, Number, SpellWords, words_of_gate, words_of_widths, words_of_circuit, ◌>>=◌, limited_at, widths_at, gate_at, is_set, check_gate, gates_at, check_outputs, check_end, circuit_of, without_outputs, IsBegun, words_so_far, SideDue, input_side, output_side, next_gate, number_of_gates, number_of_wires, FirstFault, output_unset, trailing, limited_left, widths_left, gate_left, wire_at_fault, IsMet}
use Rattle.std.proofs.lemmas.List.Concat.{flat_map-append}
use Rattle.gc_netlist.proofs.SpellingLemmas.{Spell-append, Spell-length, same_words}
use Rattle.gc_netlist.proofs.LawfulLemmas.{checked_push, tested_set, set_tested, outputs_are_set, checked_lawful}
use Rattle.gc_netlist.proofs.ReadingBack.{lawful_checked, checked_begun}
use Rattle.gc_netlist.proofs.FaultLemmas.{met, Met, Outcome, limited_read, widths_read}
use Rattle.gc_netlist.proofs.GateFaults.{gate_read, check_fault}

-- what is so of a fault of the first step, and of what comes after it
pub bind_goes : {A B : Type 0} (P : Result B ReadFault → Type 0) (r : Result A ReadFault)
    (f : A → Result B ReadFault) → ((e : ReadFault) → r ≡ Err e → P (Err e)) →
    ((x : A) → r ≡ Ok x → P (f x)) → P (r >>= f)
bind_goes P (Ok x) f k l = l x refl
bind_goes P (Err e) f k l = k e refl

-- a whole circuit whose outputs are set
begun_lawful : (c : Netlist) (u : Unit {0}) → IsBegun (length c.gates) c →
    check_outputs c ≡ Ok u → IsLawful c
begun_lawful c u b ok =
    checked_lawful (length c.gates) c (omega arith) (lawful_checked (without_outputs c) b.lawful)
    (outputs_are_set c u ok b.outputs_fit)

-- the words of one gate more
words_push : (front : List Word) (gates : List Gate) (g : Gate) →
    front ++ flat_map words_of_gate (gates ++ g ∷ [])
    ≡ (front ++ flat_map words_of_gate gates) ++ words_of_gate g
words_push front gates g = simp (flat_map-append, append-nil, append_assoc)

-- the first number of a range that fails a test
not_in_range : (p : ℕ → Bool) (a n : ℕ) → list_all p (range_with_len a n) ≡ false →
    (w : ℕ) × (a ≤ w) × (w < a + n) × (p w ≡ false) × ((v : ℕ) → a ≤ v → v < w → p v ≡ true)
not_in_range p a zero h = cc
not_in_range p a (suc n) h = elim (cases_Bool (p a)) [
  | inl passes ↦
      let (w, from, below, fails, lower) = not_in_range p (a + 1) n (grind arith) in
      (w, omega arith, omega arith, fails, λ v low high. grind (arith, cases_eq v a, lower v))
  | inr fails ↦ (a, omega arith, omega arith, fails, λ v low high. absurd (omega arith))
]

-- the circuit with these gates in place of its own
abbrev with_gates : Netlist → List Gate → Netlist
with_gates c gates = record c { gates = gates }

module _ (ts : List (List ℕ)) where
  -- What comes of reading a circuit.
  abbrev pub IsAnswer : Result Netlist ReadFault → Type 0
  IsAnswer r =
      MatchResult r (λ c. IsLawful c × SpellWords ts (words_of_circuit c) []) (FirstFault ts)

  -- No token is left after a lawful circuit.
  end_read : (c : Netlist) (us : List (List ℕ)) → IsLawful c →
      SpellWords ts (words_of_circuit c) us → Outcome ts None us (check_end us) (λ u. us ≡ [])
  end_read c [] lawful s = record { is = refl }
  end_read c (t ∷ us) lawful s = record {
    is = met (trailing c t us lawful s) tt
        (omega (arith, Spell-length ts (t ∷ us) (words_of_circuit c) s));
  }

  module _ (n : ℕ) where
    -- c begins a circuit of n gates, and its words are spelled before these tokens.
    abbrev Begun : Netlist → List (List ℕ) → Type 0
    Begun c us = IsBegun n c × SpellWords ts (words_so_far n c) us

    -- The next gate is read,
    next_read : (c : Netlist) (us : List (List ℕ)) → Begun c us → length c.gates < n →
        Outcome ts (Some (length c.gates)) (gate_left us) (gate_at us)
        (λ g. SpellWords us (words_of_gate g.0) g.1)
    next_read c us b below = gate_read ts c (words_so_far n c) (next_gate n b.0 below) us b.1

    module _ (c : Netlist) (us : List (List ℕ)) (b : Begun c us) (below : length c.gates < n)
        (g : Gate × List (List ℕ)) (hg : gate_at us ≡ Ok g) where
      next_spelled : SpellWords ts (words_so_far n c ++ words_of_gate g.0) g.1
      next_spelled = Spell-append ts us g.1 (words_so_far n c) (words_of_gate g.0) b.1
          (rw hg at (next_read c us b below).is)

      -- and refused,
      refused_met : (e : ReadFault) →
          check_gate c.wires (is_set (input_wires c) c.gates) g.0 ≡ Err e →
          (let at = wire_at_fault c.wires (is_set (input_wires c) c.gates) g.0.set g.0.operation in
          IsMet ts e g.1 at.1 (Some (length c.gates)) (Some at.0))
      refused_met = check_fault ts c (words_so_far n c) g.0 g.1 b.0.lawful
          (next_gate n b.0 below) next_spelled

      -- or added.
      more_begun : (u : Unit {0}) →
          check_gate c.wires (is_set (input_wires c) c.gates) g.0 ≡ Ok u →
          Begun (with_gates c (c.gates ++ g.0 ∷ [])) g.1
      more_begun u ok =
          let longer : Netlist = with_gates c (c.gates ++ g.0 ∷ []) in
          let front : List Word = Number n ∷ Number c.wires
          ∷ (words_of_widths c.input_widths ++ words_of_widths c.output_widths) in
          let checked = checked_push c.wires (input_wires c) c.gates g.0 u
          (lawful_checked (without_outputs c) b.0.lawful) ok in (
            checked_begun n longer (omega (arith, b.0, length-append c.gates (g.0 ∷ []))) checked,
            same_words ts g.1 (words_so_far n longer) (words_so_far n c ++ words_of_gate g.0)
                (words_push front c.gates g.0) next_spelled,
          )

    -- What comes of reading gates up to m.
    abbrev GatesRead : Netlist → ℕ → Result (List Gate × List (List ℕ)) ReadFault → Type 0
    GatesRead c m r = MatchResult r
        (λ gates. Begun (with_gates c gates.0) gates.1 × (length gates.0 ≡ m)) (FirstFault ts)

    gates_read : (k m : ℕ) (c : Netlist) (us : List (List ℕ)) → length c.gates + k ≡ m → m ≤ n →
        Begun c us → GatesRead c m (gates_at c.wires (input_wires c) k c.gates us)
    unfolding gates_at
    gates_read zero m c us len within b = (b, omega arith)
    gates_read (suc k) m c us len within b =
        let below : length c.gates < n = omega arith in
        bind_goes (GatesRead c m) (gate_at us) _
        (λ e bad. (rw bad at (next_read c us b below).is).first) (λ g hg.
        bind_goes (GatesRead c m) (check_gate c.wires (is_set (input_wires c) c.gates) g.0) _
        (λ e bad. (refused_met c us b below g hg e bad).first) (λ u hu.
        gates_read k m (with_gates c (c.gates ++ g.0 ∷ [])) g.1
        (omega (arith, length-append c.gates (g.0 ∷ []))) within
        (more_begun c us b below g hg u hu)))

  -- Reading a header, step by step: each step's fault is the first.
  pub count_met : (e : ReadFault) → limited_at MAX_GATES ts ≡ Err e →
      Met ts (limited_left ts) None e
  count_met e bad = rw bad at (limited_read ts ts number_of_gates refl).is

  module _ (count : ℕ × List (List ℕ)) (h_count : limited_at MAX_GATES ts ≡ Ok count) where
    counted : SpellWords ts (Number count.0 ∷ []) count.1 × (count.0 ≤ MAX_GATES)
    counted = rw h_count at (limited_read ts ts number_of_gates refl).is

    pub wires_met : (e : ReadFault) → limited_at MAX_WIRES count.1 ≡ Err e →
        Met ts (limited_left count.1) None e
    wires_met e bad = rw bad at
        (limited_read ts count.1 (number_of_wires count.0 counted.1) counted.0).is

    module _ (wires : ℕ × List (List ℕ)) (h_wires : limited_at MAX_WIRES count.1 ≡ Ok wires) where
      sized : SpellWords ts (Number count.0 ∷ Number wires.0 ∷ []) wires.1 × (wires.0 ≤ MAX_WIRES)
      sized = rw h_wires at
          (limited_read ts count.1 (number_of_wires count.0 counted.1) counted.0).is

      pub inputs_met : (e : ReadFault) → widths_at wires.0 wires.1 ≡ Err e →
          Met ts (widths_left wires.1) None e
      inputs_met e bad = rw bad at
          (widths_read ts (input_side count.0 counted.1 sized.1) wires.1 sized.0).is

      module _ (inputs : List ℕ × List (List ℕ))
          (h_inputs : widths_at wires.0 wires.1 ≡ Ok inputs) where
        abbrev header : List Word
        header = Number count.0 ∷ Number wires.0 ∷ words_of_widths inputs.0

        i : SpellWords ts header inputs.1 × (length inputs.0 ≤ MAX_VALUES)
            × (sum inputs.0 ≤ wires.0)
        i = rw h_inputs at
            (widths_read ts (input_side count.0 counted.1 sized.1) wires.1 sized.0).is

        abbrev outputs_due : SideDue wires.0 header
        outputs_due = output_side count.0 inputs.0 counted.1 sized.1 i.1 i.2

        pub outputs_due_met : (e : ReadFault) → widths_at wires.0 inputs.1 ≡ Err e →
            Met ts (widths_left inputs.1) None e
        outputs_due_met e bad = rw bad at (widths_read ts outputs_due inputs.1 i.0).is

        module _ (outputs : List ℕ × List (List ℕ))
            (h_outputs : widths_at wires.0 inputs.1 ≡ Ok outputs) where
          abbrev front : List Word
          front = header ++ words_of_widths outputs.0

          o : SpellWords ts front outputs.1 × (length outputs.0 ≤ MAX_VALUES)
              × (sum outputs.0 ≤ wires.0)
          o = rw h_outputs at (widths_read ts outputs_due inputs.1 i.0).is

          abbrev made : List Gate → Netlist
          made gates = netlist_of wires.0 inputs.0 outputs.0 gates

          -- Gates that are read are in order.
          begun : (m : ℕ) → m ≤ count.0 →
              GatesRead count.0 (made []) m (gates_at wires.0 (sum inputs.0) m [] outputs.1)
          begun m within = gates_read count.0 m m (made []) outputs.1 (omega arith) within (
            checked_begun count.0 (made []) (omega (arith, counted.1, sized.1, i, o))
                (λ i g at. cc),
            same_words ts outputs.1 (front ++ []) front (append-nil front) o.0,
          )

          -- The fault of the next gate, which isn't read,
          pub gate_met : (gates : List Gate × List (List ℕ)) (e : ReadFault) →
              gates_at wires.0 (sum inputs.0) (length gates.0) [] outputs.1 ≡ Ok gates →
              length gates.0 < count.0 → gate_at gates.1 ≡ Err e →
              Met ts (gate_left gates.1) (Some (length gates.0)) e
          gate_met gates e h below bad =
              let all = rw h at (begun (length gates.0) (omega arith)) in
              rw bad at (next_read count.0 (made gates.0) gates.1 all.0 below).is

          -- or is refused.
          pub wire_met : (gates : List Gate × List (List ℕ)) (g : Gate × List (List ℕ))
              (e : ReadFault) →
              gates_at wires.0 (sum inputs.0) (length gates.0) [] outputs.1 ≡ Ok gates →
              length gates.0 < count.0 → gate_at gates.1 ≡ Ok g →
              check_gate wires.0 (is_set (sum inputs.0) gates.0) g.0 ≡ Err e →
              (let at =
              wire_at_fault wires.0 (is_set (sum inputs.0) gates.0) g.0.set g.0.operation in
              IsMet ts e g.1 at.1 (Some (length gates.0)) (Some at.0))
          wire_met gates g e h below hg =
              let all = rw h at (begun (length gates.0) (omega arith)) in
              refused_met count.0 (made gates.0) gates.1 all.0 below g hg e

          module _ (gates : List Gate × List (List ℕ))
              (h_gates : gates_at wires.0 (sum inputs.0) count.0 [] outputs.1 ≡ Ok gates) where
            abbrev c : Netlist
            c = made gates.0

            whole : IsBegun (length gates.0) c × SpellWords ts (words_of_circuit c) gates.1
            whole =
                let all = rw h_gates at (begun count.0 (omega arith)) in (
                  rw all.1 all.0.0,
                  same_words ts gates.1 (words_of_circuit c) (words_so_far count.0 c)
                      (rw all.1 refl) all.0.1,
                )

            -- The fault of the first output wire that isn't set,
            pub unset_met : (w : ℕ) → wires.0 ≤ w + sum outputs.0 → w < wires.0 →
                is_set (sum inputs.0) gates.0 w ≡ false →
                ((v : ℕ) → wires.0 ≤ v + sum outputs.0 → v < w →
                is_set (sum inputs.0) gates.0 v ≡ true) →
                IsMet ts OutputUnset gates.1 0 None (Some w)
            unset_met w last wire free lower =
                let unset = λ (set : IsSet c w). both_ways _ free (set_tested c w set) in
                met (output_unset c w gates.1 whole.0 whole.1 last wire unset)
                (λ v high below. tested_set c v (lower v high below))
                (sym (Spell-length ts gates.1 (words_of_circuit c) whole.1))

            -- or of a token after the last gate.
            pub end_met : (u : Unit {0}) (e : ReadFault) → check_outputs c ≡ Ok u →
                check_end gates.1 ≡ Err e → Met ts gates.1 None e
            end_met u e set bad =
                rw bad at (end_read c gates.1 (begun_lawful c u whole.0 set) whole.1).is

            -- What comes of checking the outputs and the end.
            ended : IsAnswer (check_outputs c >>= (λ u. check_end gates.1 >>= (λ v. Ok c)))
            unfolding check_outputs
            ended =
                let set : ℕ → Bool = is_set (sum inputs.0) gates.0 in
                let fits : sum outputs.0 ≤ wires.0 = o.2 in
                let first : ℕ = wires.0 - sum outputs.0 in
                elim (cases_Bool (list_all set (range_with_len first (sum outputs.0)))) [
                  | inl all ↦ rw all (bind_goes IsAnswer (check_end gates.1) _
                      (λ e bad. (end_met tt e (rw all refl) bad).first) (λ v last.
                      let lawful = begun_lawful c tt whole.0 (rw all refl) in
                      let none = rw last at (end_read c gates.1 lawful whole.1).is in
                      (lawful, rw none at whole.1)))
                  | inr some ↦
                      let (w, from, below, free, lower) =
                      not_in_range set first (sum outputs.0) some in
                      rw some (unset_met w (omega arith) (omega arith) free
                      (λ v high low. lower v (omega arith) low)).first
                ]

  pub circuit_of-read : IsAnswer (circuit_of ts)
  unfolding circuit_of
  circuit_of-read =
      bind_goes IsAnswer _ _ (λ e bad. (count_met e bad).first) (λ n h1.
      bind_goes IsAnswer _ _ (λ e bad. (wires_met n h1 e bad).first) (λ w h2.
      bind_goes IsAnswer _ _ (λ e bad. (inputs_met n h1 w h2 e bad).first) (λ i h3.
      bind_goes IsAnswer _ _ (λ e bad. (outputs_due_met n h1 w h2 i h3 e bad).first) (λ o h4.
      bind_goes IsAnswer _ _ (λ e bad. rw bad at (begun n h1 w h2 i h3 o h4 n.0 (omega arith)))
      (λ g h5. ended n h1 w h2 i h3 o h4 g h5)))))

  -- What is read as a circuit is lawful and spelled so,
  pub circuit_of-lawful : (c : Netlist) → circuit_of ts ≡ Ok c → IsLawful c
  circuit_of-lawful c h = (rw h at circuit_of-read).0

  pub circuit_of-spelled : (c : Netlist) → circuit_of ts ≡ Ok c →
      SpellWords ts (words_of_circuit c) []
  circuit_of-spelled c h = (rw h at circuit_of-read).1
