-- What comes of reading a gate and of judging it by the gates before it, or the first fault.
use Rattle.gc_netlist.proofs.CommonNames.{◌≡◌, ℕ, ◌+◌, ◌-◌, ◌<◌, ◌&&◌, ◌==◌, ◌++◌, ◌⊎◌, inl, inr, List, [], ◌∷◌, length, length-append, map, true, Option, Some, MatchResult, Result, Ok, Err, codes, refl, arith, ◌≤◌, Bool, cases_Bool, nat_tests, ReadFault, BadShape, UnknownOperation, BadConstant, NoSuchWire, Unset, SetTwice, Operation, Gate, Netlist, input_wires, EachRead, IsSet, IsLawful, Word, Number, Name, SpellWords, words_of_operation, words_of_gate, ◌>>=◌, token_at, number_at, operation_of_two, operation_of_one, two_at, one_at, gate_at, is_set, check_read, check_set, check_reads, check_gate, GateDue, IsCount, GateNumberDue, first_count, second_count, wire_number, due_in_gate, NameDue, due_as_name, IsNamed, no_name, bad_counts, unknown, other_counts, bad_constant, without_outputs, wires_read, IsFirstUnset, no_wire_to_read, unset, no_wire_to_set, set_twice, left_after, two_left, one_left, gate_left, WireBack, wire_of_one, wire_of_two, wire_at_fault, IsMet, before_unset}
use Rattle.std.proofs.lemmas.Slice.Eq.{bytes_eq-Decides}
use Rattle.gc_netlist.proofs.SpellingLemmas.{Spell-append, Spell-length, Spell-lengths, same_words}
use Rattle.gc_netlist.proofs.FaultLemmas.{met, Outcome, step, number_read}
use Rattle.gc_netlist.specs.declared.gate.Operation.TheVariants.{Xor, And, Inv, Eq, Eqw}
use Rattle.gc_netlist.proofs.LawfulLemmas.{tested_set}
use Rattle.gc_netlist.proofs.ReadingBack.{set_read}

-- The words of a gate with a constant.
abbrev pub words_of_constant : ℕ → ℕ → List Word
words_of_constant v w = Number 1 ∷ Number 1 ∷ Number v ∷ Number w ∷ Name (codes "EQ") ∷ []

-- What a name gives after the counts r and 1 and these numbers: the words of the gate, or a fault,
-- where it has other counts, where no operation has it, or where it wants a constant.
abbrev Named : ℕ → List ℕ → ℕ → ℕ → List ℕ → Result Operation ReadFault → Type 0
Named r numbers v w name o =
    let words : List Word = map Number (r ∷ 1 ∷ numbers) ++ Name name ∷ [] in
    MatchResult o (λ op. words_of_operation w op ≡ words)
    (λ e. ((e ≡ BadShape) × IsNamed (3 - r) name)
    ⊎ (((e ≡ UnknownOperation) × ((k : ℕ) → IsNamed k name → ⊥))
    ⊎ ((e ≡ BadConstant) × (1 < v) × (words_of_constant v w ≡ words))))

two_named : (a b w : ℕ) (name : List ℕ) (o : Result Operation ReadFault) →
    operation_of_two name a b ≡ o → Named 2 (a ∷ b ∷ w ∷ []) a w name o
unfolding operation_of_two
two_named a b w name o h = grind (arith, bytes_eq-Decides)

one_named : (a w : ℕ) (name : List ℕ) (o : Result Operation ReadFault) →
    operation_of_one name a ≡ o → Named 1 (a ∷ w ∷ []) a w name o
unfolding operation_of_one
one_named a w name o h = grind (arith, nat_tests, bytes_eq-Decides)

-- A gate that was read, and what comes after it.
abbrev made : Operation → ℕ → List (List ℕ) → Result (Gate × List (List ℕ)) ReadFault
made op w rest = Ok (record { operation = op; set = w }, rest)

module _ (ts : List (List ℕ)) (c : Netlist) (words : List Word) (due : GateDue c words)
    (us : List (List ℕ)) (so_far : SpellWords ts words us) where
  -- the gate
  abbrev here : Option ℕ
  here = Some (length c.gates)

  -- Its words are spelled.
  abbrev Spelled : Gate × List (List ℕ) → Type 0
  Spelled g = SpellWords us (words_of_gate g.0) g.1

  -- words of the gate, after those before it
  after : (ws : List Word) (vs : List (List ℕ)) → SpellWords us ws vs →
      SpellWords ts (words ++ ws) vs
  after ws vs s = Spell-append ts us vs words ws so_far s

  -- One more number of the gate.
  number : {B : Type 0} {Good : B → Type 0} (numbers : List ℕ) (vs : List (List ℕ))
      (f : ℕ × List (List ℕ) → Result B ReadFault) (next : ℕ × List (List ℕ) → List (List ℕ)) →
      GateNumberDue numbers → SpellWords us (map Number numbers) vs →
      ((x : ℕ × List (List ℕ)) → SpellWords us (map Number numbers ++ Number x.0 ∷ []) x.1 →
      Outcome ts here (next x) (f x) Good) →
      Outcome ts here (left_after (number_at vs) vs next) (number_at vs >>= f) Good
  number numbers vs f next at s k =
      step f next (number_read ts vs (due_in_gate c words numbers due at)
      (after (map Number numbers) vs s))
      (λ x took. k x (Spell-append us vs x.1 (map Number numbers) (Number x.0 ∷ []) s took))

  -- A name is due after the counts r and 1 and r + 1 numbers.
  module _ (r : ℕ) (numbers : List ℕ) (v w : ℕ) (count : IsCount r)
      (len : length numbers ≡ r + 1) where
    abbrev first : List Word
    first = map Number (r ∷ 1 ∷ numbers)

    abbrev name_due : NameDue r (words ++ first)
    name_due = due_as_name c words numbers due count len

    judged : (name : List ℕ) (rest : List (List ℕ)) (o : Result Operation ReadFault) →
        Named r numbers v w name o → SpellWords us first (name ∷ rest) →
        Outcome ts here rest (o >>= (λ op. made op w rest)) Spelled
    judged name rest (Ok op) same s =
        record { is = rw same (Spell-append us _ rest first (Name name ∷ []) s (refl, refl)) }
    judged name rest (Err e) why s =
        let before : List Word = words ++ first in
        let so_long = after first (name ∷ rest) s in
        let whole = Spell-append ts _ rest before (Name name ∷ []) so_long (refl, refl) in
        let place = Spell-length ts (name ∷ rest) before so_long in
        record {
          is = elim why [
            | inl p ↦ rw p.0 (met
                (other_counts r (3 - r) before name rest name_due whole p.1 (omega arith)) tt
                (omega arith))
            | inr (inl p) ↦ rw p.0
                (met (unknown r before name rest name_due whole p.1) tt (omega arith))
            | inr (inr p) ↦
                let all = after (words_of_constant v w) rest (same_words us rest _ _ p.2
                (Spell-append us _ rest first (Name name ∷ []) s (refl, refl))) in
                rw p.0 (met (bad_constant c words v w rest due all p.1) tt
                (omega (arith, Spell-lengths ts rest words (words_of_constant v w) all)))
          ];
        }

    name_read : (operation : List ℕ → Result Operation ReadFault) (vs : List (List ℕ)) →
        ((name : List ℕ) → Named r numbers v w name (operation name)) →
        SpellWords us first vs →
        Outcome ts here (left_after (token_at vs) vs (λ name. name.1))
        (token_at vs >>= (λ name. operation name.0 >>= (λ op. made op w name.1))) Spelled
    name_read operation [] named s =
        record { is = met (no_name r (words ++ first) name_due (after first [] s)) tt tt }
    name_read operation (name ∷ rest) named s = judged name rest (operation name) (named name) s

  two_read : (vs : List (List ℕ)) → SpellWords us (Number 2 ∷ Number 1 ∷ []) vs →
      Outcome ts here (two_left vs) (two_at vs) Spelled
  unfolding two_at two_left
  two_read vs s =
      number _ vs _ _ (wire_number 2 [] (inr refl) (omega arith)) s (λ a s1.
      number _ a.1 _ _ (wire_number 2 (a.0 ∷ []) (inr refl) (omega arith)) s1 (λ b s2.
      number _ b.1 _ _ (wire_number 2 (a.0 ∷ b.0 ∷ []) (inr refl) (omega arith)) s2 (λ w s3.
      name_read 2 (a.0 ∷ b.0 ∷ w.0 ∷ []) a.0 w.0 (inr refl) refl
      (λ name. operation_of_two name a.0 b.0) w.1 (λ name. two_named a.0 b.0 w.0 name _ refl) s3)))

  one_read : (vs : List (List ℕ)) → SpellWords us (Number 1 ∷ Number 1 ∷ []) vs →
      Outcome ts here (one_left vs) (one_at vs) Spelled
  unfolding one_at one_left
  one_read vs s =
      number _ vs _ _ (wire_number 1 [] (inl refl) (omega arith)) s (λ a s1.
      number _ a.1 _ _ (wire_number 1 (a.0 ∷ []) (inl refl) (omega arith)) s1 (λ w s2.
      name_read 1 (a.0 ∷ w.0 ∷ []) a.0 w.0 (inl refl) refl (λ name. operation_of_one name a.0) w.1
      (λ name. one_named a.0 w.0 name _ refl) s2))

  -- A gate that is due.
  pub gate_read : Outcome ts here (gate_left us) (gate_at us) Spelled
  unfolding gate_at gate_left
  gate_read =
      number [] us _ _ first_count refl (λ r s1.
      number (r.0 ∷ []) r.1 _ _ (second_count r.0) s1 (λ s s2.
      elim (cases_Bool (r.0 == 2 && s.0 == 1)) [
        | inl is ↦ rw is (two_read s.1 (grind (arith, nat_tests)))
        | inr not_two ↦ elim (cases_Bool (r.0 == 1 && s.0 == 1)) [
          | inl is ↦ rw (not_two, is) (one_read s.1 (grind (arith, nat_tests)))
          | inr not_one ↦
              let bad : IsCount r.0 × (s.0 ≡ 1) → ⊥ = λ p. grind (arith, nat_tests) in
              let all = after (Number r.0 ∷ Number s.0 ∷ []) s.1 s2 in
              let first = Spell-length ts r.1 (words ++ Number r.0 ∷ [])
              (after (Number r.0 ∷ []) r.1 s1) in
              rw (not_two, not_one) (record {
                is = met (bad_counts c words r.0 s.0 s.1 due all bad) tt
                    (omega (arith, first, length-append words (Number r.0 ∷ [])));
              })
        ]
      ]))

-- where the first or the second step met a fault
bind_fails : {A B C : Type 0} (r : Result A ReadFault) (f : A → Result B ReadFault)
    (e : ReadFault) → (r >>= f) ≡ Err e →
    (r ≡ Err e → C) → ((x : A) → r ≡ Ok x → f x ≡ Err e → C) → C
bind_fails (Ok x) f e h k l = l x refl h
bind_fails (Err d) f e h k l = k (cc)

-- Which fault an unset wire that is read is: there is no such wire, or there is one.
abbrev pub UnsetFault : Netlist → ℕ → ReadFault → Type 0
UnsetFault c w e = ((c.wires ≤ w) × (e ≡ NoSuchWire)) ⊎ ((w < c.wires) × (e ≡ Unset))

module _ (c : Netlist) (lawful : IsLawful (without_outputs c)) where
  abbrev set : ℕ → Bool
  set = is_set (input_wires c) c.gates

  read_fault : (w : ℕ) (e : ReadFault) → check_read c.wires set w ≡ Err e →
      (IsSet c w → ⊥) × UnsetFault c w e
  unfolding check_read
  read_fault w e h = (λ is. let ok = set_read c lawful w is in cc, grind (arith, nat_tests))

  read_passes : (w : ℕ) (u : Unit {0}) → check_read c.wires set w ≡ Ok u → IsSet c w
  unfolding check_read
  read_passes w u h = tested_set c w (grind (arith, nat_tests))

  -- The first wire at fault that a gate of this number of words reads, and how far before the
  -- end of the gate it stands.
  abbrev ReadsFault : List ℕ → WireBack → ℕ → ReadFault → Type 0
  ReadsFault wires at words e = (w : ℕ) × (back : ℕ) × (first : IsFirstUnset c wires w)
      × UnsetFault c w e × (at ≡ (w, back)) × (2 + before_unset c wires w first + back ≡ words)

  one_fault : (a sets : ℕ) (e : ReadFault) → check_read c.wires set a ≡ Err e →
      ReadsFault (a ∷ []) (wire_of_one c.wires set a sets) 5 e
  one_fault a sets e bad =
      let (free, kind) = read_fault a e bad in (a, 3, inl (refl, free), kind, rw bad refl, refl)

  two_faults : (a b sets : ℕ) (e : ReadFault) → check_reads c.wires set (And a b) ≡ Err e →
      ReadsFault (a ∷ b ∷ []) (wire_of_two c.wires set a b sets) 6 e
  unfolding check_reads
  two_faults a b sets e h =
      bind_fails (check_read c.wires set a) _ e h
      (λ bad.
      let (free, kind) = read_fault a e bad in (a, 4, inl (refl, free), kind, rw bad refl, refl))
      (λ u hu bad.
      let (free, kind) = read_fault b e bad in
      (b, 3, inr (read_passes a u hu, inl (refl, free)), kind, rw (hu, bad) refl, refl))

  reads_fault : (op : Operation) (sets : ℕ) (e : ReadFault) → check_reads c.wires set op ≡ Err e →
      ReadsFault (wires_read op) (wire_at_fault c.wires set sets op)
      (length (words_of_operation sets op)) e
  unfolding check_reads
  reads_fault (Xor a b) sets e h = two_faults a b sets e h
  reads_fault (And a b) sets e h = two_faults a b sets e h
  reads_fault (Inv a) sets e h = one_fault a sets e h
  reads_fault (Eq v) sets e h = cc
  reads_fault (Eqw a) sets e h = one_fault a sets e h

  -- Where the wires that a gate reads are in order, it is the wire that it sets.
  reads_pass : (op : Operation) (sets : ℕ) (u : Unit {0}) → check_reads c.wires set op ≡ Ok u →
      (wire_at_fault c.wires set sets op ≡ (sets, 2)) × EachRead (IsSet c) op
  unfolding check_reads check_read
  reads_pass op sets u h = grind (arith, nat_tests, tested_set c)

-- A gate has four words besides the wires that it reads.
pub has_reads : (sets : ℕ) (op : Operation) →
    length (wires_read op) + 4 ≤ length (words_of_operation sets op)
has_reads sets op = grind arith

-- What fails the check has its first fault there.
module _ (ts : List (List ℕ)) (c : Netlist) (words : List Word) (g : Gate) (rest : List (List ℕ))
    (lawful : IsLawful (without_outputs c)) (due : GateDue c words)
    (s : SpellWords ts (words ++ words_of_gate g) rest) where
  -- the wire at fault, and how far back it stands
  abbrev at_fault : WireBack
  at_fault = wire_at_fault c.wires (is_set (input_wires c) c.gates) g.set g.operation

  pub check_fault : (e : ReadFault) →
      check_gate c.wires (is_set (input_wires c) c.gates) g ≡ Err e →
      IsMet ts e rest at_fault.1 (Some (length c.gates)) (Some at_fault.0)
  unfolding check_gate check_set
  check_fault e h =
      let all = Spell-lengths ts rest words (words_of_gate g) s in
      let four = has_reads g.set g.operation in
      bind_fails (check_reads c.wires (is_set (input_wires c) c.gates) g.operation) _ e h
      (λ bad.
      let (w, back, first, kind, found, place) = reads_fault c lawful g.operation g.set e bad in
      elim kind [
        | inl p ↦ rw (p.1, found)
            (met (no_wire_to_read c words g w rest due s first p.0) tt (omega arith))
        | inr p ↦ rw (p.1, found) (met (unset c words g w rest due s first p.0) tt (omega arith))
      ])
      (λ u hu h1.
      let (found, reads) = reads_pass c lawful g.operation g.set u hu in
      let why : ((is_set (input_wires c) c.gates g.set ≡ true) × (e ≡ SetTwice))
      ⊎ ((c.wires ≤ g.set) × (e ≡ NoSuchWire)) = grind (arith, nat_tests) in
      elim why [
        | inl p ↦
            let set = tested_set c g.set p.0 in
            rw (found, p.1) (met (set_twice c words g rest due s reads set) tt (omega arith))
        | inr p ↦ rw (found, p.1)
            (met (no_wire_to_set c words g rest due s reads p.0) tt (omega arith))
      ])
