-- Each kind of step keeps the rule.
use Rattle.std.proofs.Common.{rules, ◌≡◌, ℕ, ◌+◌, ◌<◌, ◌≤◌, ◌≢◌, ◌⊎◌, List, [], ◌∷◌, ◌++◌, zero, suc, length, set, get_or, sym, refl, ap, ◌∙◌, inl, inr, ⊎_elim, arith, eqb, eq-eqb, ne_eqb, length-set, get_or-set_other, get_or-set_same}
use Rattle.std.proofs.lemmas.Bool.Decides.{nat_tests}
use mathlib.Core.Logic.{dite}
use native.Mathlib.Decide.{ℕ_discrete, dec_le}
use mathlib.Core.Option.{none, some}
use Rattle.std.specs.Prelude.{Some}
use lib.ListN.{get_elem?}
use lib.Seq.{set-get_or}
use prog.Atomic.{either}
use Rattle.atomic_table.specs.Table.{State, Me, step, keeps, Allows}
use Rattle.atomic_table.specs.Seated.{TableId}
use Rattle.atomic_table.specs.declared.shared.Seat.{Seat}
use Rattle.gc_workers.specs.Counts.{total, only}
use Rattle.gc_workers.specs.declared.states.TheConstants.{DONE, FREE, IN_HAND}
use Rattle.gc_rounds.specs.Words.{stamp}
use Rattle.gc_rounds.specs.declared.view.Key.{Key}
use Rattle.gc_gates.specs.Layout.{Layout}
use Rattle.gc_gates.specs.Frame.{IsBeside, FrameLaw}
use Rattle.gc_rounds.specs.declared.view.Position.TheVariants.{Inside}
use Rattle.gc_rounds.specs.declared.view.Step.{Step}
use Rattle.gc_rounds.specs.declared.view.Step.TheVariants.{Load, Store, Claim}
use Rattle.gc_workers.proofs.Sums.{total-append, total-set, term_le, terms_le, sole, each-set, only_same, only_other, only_le, only_is}
use Rattle.gc_gates.specs.Pairs.{is_pair, pairs, looked}
use Rattle.gc_gates.specs.Gates.{in_hand, low_of, high_of, IsOnce}
use Rattle.gc_gates.specs.Gates as board
use Rattle.gc_gates.specs.Steps.{Finds, changed, learnt, after_state, after_half, after_stored, after_done, state_loaded, claimed, half_stored, done_stored, once_learnt}
use Rattle.gc_gates.specs.BankLaws.{SeatView, SameHalves, Lasting, Up, looks_last, fits_last}
use Rattle.gc_gates.specs.Places.{IsPlaceAt}
use Rattle.gc_gates.specs.declared.view.Hand.{Hand}
use Rattle.gc_gates.specs.declared.view.Hand.TheVariants.{Empty, Has}
use Rattle.gc_gates.proofs.PairLemmas.{pair_same, pair_is, look_is, someone, hand_is}

module _ (lay : Layout) where
  -- the words lie so
  abbrev at : ℕ → ℕ → ℕ
  at r g = lay.at r g

  abbrev state_of : List ℕ → ℕ → ℕ → ℕ
  state_of words r g = board.state_of lay words r g

  -- what a list of known gates says of the words
  abbrev Known : List ℕ → List (ℕ × ℕ) → Type 0
  Known words known = (k h : ℕ) → 0 < pairs k h known → stamp k DONE ≤ state_of words k h

  -- one more gate is known that is done
  knows_too : (words : List ℕ) (known : List (ℕ × ℕ)) (r g : ℕ) → stamp r DONE ≤ state_of words r g
      → Known words known → Known words ((r, g) ∷ known)
  knows_too words known r g done f k h more =
      let old = f k h in let same = pair_is k h (r, g) in grind arith

  -- what is known once a state was found
  learns : (words : List ℕ) (known : List (ℕ × ℕ)) (r g : ℕ) → Known words known
      → Known words (learnt known r g (state_of words r g))
  learns words known r g f k h more =
      let old = f k h in let same = pair_is k h (r, g) in grind (arith, nat_tests)

  module _ {J : Type 0} (gates : J → ℕ) (right : J → ℕ → ℕ → ℕ → ℕ → Type 0)
      (outer : Key J → List ℕ → List (SeatView J) → Type 0)
      (holds : Key J → State ℕ (SeatView J) → Type 0)
      (law : FrameLaw lay gates right outer holds) (key : Key J) where
    abbrev job : J
    job = key.about

    abbrev Rule : List ℕ → List (SeatView J) → Type 0
    Rule words views = outer key words views × board.Sound lay gates right job words views

    -- state 1 is of the bank's round
    one_round : (words : List ℕ) (views : List (SeatView J)) (k h : ℕ) → Rule words views
        → state_of words k h ≡ stamp k IN_HAND → lay.now words k ≡ k
    one_round words views k h o is =
        let t = someone (λ (u : SeatView J). in_hand k h u.inner.hand) views
        (omega (arith, o.1.hands k h, only_same)) in
        let p = hand_is k h t.1.inner.hand t.3 in
        law.sees key words views t.0 k t.1 o.0 t.2 ((o.1.fits t.0 t.1 t.2).inside k h p.0 p.1)

    -- where one seat stands for all, no other has a gate in hand or made one
    pub sees_all : (words : List ℕ) (views : List (SeatView J)) (id : ℕ) (v : SeatView J)
        → Rule words views → get_elem? views id ≡ some v → v.all ≡ key.seats → v.seats ≡ v.all
        → (r g : ℕ) → (in_hand r g v.inner.hand ≡ only (stamp r IN_HAND) (state_of words r g))
        × (total (λ u. pairs r g u.inner.made) views ≡ pairs r g v.inner.made)
    sees_all words views id v o at_id are whole r g =
        let all : total (λ (u : SeatView J). u.seats) views ≡ v.seats =
        omega (arith, law.dealt key words views o.0) in (
          sym (sole (λ u. in_hand r g u.inner.hand) (λ u. u.seats) views id v at_id all
              (λ j u there no. ap (in_hand r g) ((o.1.fits j u there).spent no).0)) ∙ o.1.hands r g,
          sole (λ u. pairs r g u.inner.made) (λ u. u.seats) views id v at_id all
              (λ j u there no. ap (pairs r g) ((o.1.fits j u there).spent no).1),
        )

    -- a load leaves the words, and may tell what is known of them
    loaded : (words : List ℕ) (views : List (SeatView J)) (i id : ℕ) (v : SeatView J)
        (known : List (ℕ × ℕ)) (looks : List (ℕ × ℕ × ℕ)) (e : Step) → IsBeside e → Rule words views
        → get_elem? views id ≡ some v → Known words known → Lasting lay words looks
        → Rule (set words i (get_or words i 0))
        (set views id (changed v v.inner.hand v.inner.made known looks e))
    loaded words views i id v known looks e idle o at_id knows lasting =
        let f = o.1.fits id v at_id in let w = changed v v.inner.hand v.inner.made known looks e in
        let totals = λ (m : SeatView J → ℕ). total-set m views id v w at_id in
        let makes = λ (k h : ℕ). totals (λ u. pairs k h u.inner.made) in rw (set-get_or words i 0) (
          law.loads key words views id v w e o.0 at_id
              (record { beside = idle; position = refl; all = refl; seats = refl; steps = refl }),
          record {
            long = o.1.long;
            cells = o.1.cells;
            hands = λ k h. omega (arith, totals (λ u. in_hand k h u.inner.hand), o.1.hands k h);
            once = λ k h. omega (arith, makes k h, o.1.once k h);
            mades = λ k h l. omega (arith, makes k h, o.1.mades k h l);
            fits = each-set _ views id w (λ j u ne there. o.1.fits j u there)
                (search (rules, f, knows, lasting));
          },
        )

    kept : (s : State ℕ (SeatView J)) → Rule s.words s.views → holds key s
    kept s o = law.whole key s o.0 o.1

    module _ {table : TableId} {seat : Seat ℕ (SeatView J)} {r g : ℕ}
        (p : IsPlaceAt lay gates table key seat r g) where
      abbrev v : SeatView J
      v = seat.me.0

      there : at r g + 2 < lay.size (gates key.about)
      there = law.layout.within (gates key.about) r g p.exists

      abbrev Holds : State ℕ (SeatView J) → Type 0
      Holds s = Rule s.words s.views

      -- what a step of the seat on word i owes
      abbrev Owes : ℕ → (ℕ → ℕ) → (ℕ → Me ℕ (SeatView J) → Type 0) → Type 0
      Owes i f then = (seat.table_id ≡ table) × (i < table.words)
          × Allows (holds key) table.slots seat.id seat.me i f then

      owed : {i : ℕ} {A : Type 0} → i < at r g + 3 → A
          → (seat.table_id ≡ table) × (i < table.words) × A
      owed below allowed = (p.place.table_id, omega (arith, there, p.place.words), allowed)

      same_gate : (k h : ℕ) → at k h ≡ at r g → h ≡ g
      same_gate k h e = (law.layout.apart r g k h 0 0 (omega arith) (omega arith)
          (omega (arith, e))).1

      -- the word says which gate it is, and the seat in which round
      here : (P : ℕ → ℕ → Type 0) → P r g → (k h : ℕ) → v.position ≡ Inside k → at r g ≡ at k h
          → P k h
      here P holds_here k h position e =
          let same : k ≡ r = cc in rw (same, same_gate k h (sym e)) holds_here

      now_is : (s : State ℕ (SeatView J)) → Holds s → get_elem? s.views seat.id ≡ some v
          → lay.now s.words r ≡ r
      now_is s o at_id = law.sees key s.words s.views seat.id r v o.0 at_id p.inside

      finds : (s : State ℕ (SeatView J)) → Holds s → get_elem? s.views seat.id ≡ some v
          → Finds v r g (state_of s.words r g)
      finds s o at_id = let c = o.1.cells r g in let e = now_is s o at_id in record {
        state = c.state;
        round = omega (arith, c.round, e);
        known = λ more. omega
            (arith, (o.1.fits seat.id v at_id).knows r g more, c.state, c.round, e);
        alone = λ whole. let are = p.place.whole in
            let t = sees_all s.words s.views seat.id v o at_id are whole r g in
            (t.0, sym t.1 ∙ o.1.mades r g (omega (arith, c.round, e)));
      }

      pub loads_state : Owes (at r g) (λ n. n)
          (state_loaded lay (step table.slots (at r g) 0 0 none) seat.me)
      loads_state = owed (omega arith) (λ s h wide at_id small. let o = law.parts key s h in
          let found : ℕ = state_of s.words r g in let f = o.1.fits seat.id v at_id in
          let rule = loaded s.words s.views (at r g) seat.id v (learnt v.inner.known r g found)
          ((r, g, found) ∷ v.inner.looks) (Load (at r g) found) (λ b. refl, λ k. refl, refl)
          o at_id (learns s.words v.inner.known r g f.knows)
          (λ k h n more. let old = f.looks k h n in let it = look_is k h n (r, g, found) in
          let here = now_is s o at_id in grind arith) in
          let says = here _ (finds s o at_id, refl) in
          (after_state lay v r g found, keeps, tt, kept _ rule, (refl, says)))

      -- a load of half i of the gate, where this is right if the gate is done in the round
      pub loads_half : (i : ℕ) → i < 2 → ((s : State ℕ (SeatView J)) → Holds s
          → state_of s.words r g ≡ stamp r DONE
          → right job r g i (get_or s.words (at r g + suc i) 0))
          → Owes (at r g + suc i) (λ n. n)
          (λ n m. (m.1 ≡ seat.me.1) × (m.0 ≡ after_half v (at r g + suc i) n)
          × ((k h : ℕ) → v.position ≡ Inside k → at r g + suc i ≡ at k h + suc i
          → 0 < pairs k h v.inner.known → (j : J) → v.inner.job ≡ Some j → right j k h i n))
      loads_half i two is = owed (omega arith) (λ s h wide at_id small. let o = law.parts key s h in
          let word : ℕ = at r g + suc i in let found : ℕ = get_or s.words word 0 in
          let f = o.1.fits seat.id v at_id in
          let rule = loaded s.words s.views word seat.id v v.inner.known v.inner.looks
          (Load word found) (λ b. refl, λ k. refl, refl) o at_id f.knows f.looks in
          let Right = λ (k h : ℕ). 0 < pairs k h v.inner.known → (j : J) → v.inner.job ≡ Some j
          → right j k h i found in let known_right : Right r g = λ known j its.
          let one : Some job ≡ Some j = sym p.place.about ∙ its in
          let ours : job ≡ j = cc in rw (← ours) (is s o ((finds s o at_id).known known)) in (
            after_half v word found,
            keeps,
            tt,
            kept _ rule,
            (refl, refl, λ k h position e. here Right known_right k h position (omega (arith, e))),
          ))

      -- A write of n to word i of the gate, which takes its state to m of the round or leaves it
      -- there. Where a seat has the gate in hand, that is this one.
      written : (s : State ℕ (SeatView J)) (i word n m : ℕ) (hand : Hand)
          (made known : List (ℕ × ℕ)) (e : Step) → IsBeside e → Holds s
          → get_elem? s.views seat.id ≡ some v → i < 3 → word ≡ at r g + i → 0 < m → m < 3
          → state_of s.words r g ≤ stamp r m → state_of s.words r g < stamp r DONE
          → state_of (set s.words word n) r g ≡ stamp r m
          → (m ≡ 2 → board.IsHandRight lay gates right job (set s.words word n) (Has r g 2))
          → in_hand r g v.inner.hand ≡ only (stamp r IN_HAND) (state_of s.words r g)
          → in_hand r g hand ≡ only (stamp r IN_HAND) (stamp r m)
          → pairs r g made ≡ pairs r g v.inner.made + only (stamp r DONE) (stamp r m)
          → ((k h : ℕ) → is_pair k h (r, g) ≡ 0 → (in_hand k h hand ≡ in_hand k h v.inner.hand)
          × (pairs k h made ≡ pairs k h v.inner.made))
          → board.IsHandRight lay gates right job (set s.words word n) hand
          → ((k h phase : ℕ) → hand ≡ Has k h phase → k ≡ r)
          → (Known (set s.words word n) v.inner.known → Known (set s.words word n) known)
          → (v.seats ≡ 0 → ⊥)
          → Rule (set s.words word n)
          (set s.views seat.id (changed v hand made known v.inner.looks e))
      written s i word n m hand made known e idle o at_id below is some_state small le undone
          set_to right_halves own hand_here made_here elsewhere holding in_it knows real =
          let f = o.1.fits seat.id v at_id in let words = s.words in let now = set words word n in
          let w = changed v hand made known v.inner.looks e in
          let round : (k h : ℕ) → at k h ≡ at r g → lay.now words k ≡ r =
          λ k h same. law.layout.shared words r g k h same ∙ now_is s o at_id in
          let stays : (k h j x : ℕ) → at k h ≢ at r g → j < 3 → x ≡ at k h + j
          → get_or now x 0 ≡ get_or words x 0 = λ k h j x ne three at_x.
          get_or-set_other words word x n 0
          (λ e. ne (law.layout.apart r g k h i j below three (omega (arith, e, is, at_x))).2) in
          let stay : (k h : ℕ) → at k h ≢ at r g → state_of now k h ≡ state_of words k h =
          λ k h ne. stays k h 0 (at k h) ne (omega arith) (omega arith) in
          let halves : (k h : ℕ) → at k h ≢ at r g → SameHalves lay words now k h = λ k h ne.
          (stays k h 1 _ ne (omega arith) refl, stays k h 2 _ ne (omega arith) refl) in
          let up : Up lay words now = record {
            rounds = λ k. rw is (omega (arith, law.layout.stays words r g i n k));
            moves = λ k h. let off = stay k h in let here = round k h in grind arith;
          } in
          let counts : (k h : ℕ)
          → (in_hand k h hand + only (stamp k IN_HAND) (state_of words k h)
          ≡ in_hand k h v.inner.hand + only (stamp k IN_HAND) (state_of now k h))
          × (state_of now k h < stamp (k + 1) FREE
          → pairs k h made + only (stamp k DONE) (state_of words k h)
          ≡ pairs k h v.inner.made + only (stamp k DONE) (state_of now k h))
          × ((pairs k h made ≡ pairs k h v.inner.made) ⊎ (state_of now k h < stamp (k + 1) FREE)) =
          λ k h. dite (dec_le 1 (is_pair k h (r, g)))
          (λ y. let q = pair_is k h (r, g) y in rw (q.0, q.1, set_to)
          (omega (arith, own), (λ l. omega (arith, only_other)), inr (omega arith)))
          (λ no. let else = elsewhere k h (omega arith) in dite (ℕ_discrete (at k h) (at r g))
          (λ same. let gate = same_gate k h same in let here = round k h same in
          let one = one_round words s.views k h o in
          rw (same, set_to) (grind (arith, nat_tests), (λ l. grind (arith, nat_tests)), inl else.1))
          (λ ne. rw (stay k h ne) (omega (arith, else.0), (λ l. omega (arith, else.1)), inl else.1))) in
          let totals = λ (m : SeatView J → ℕ). total-set m s.views seat.id v w at_id in
          let makes = λ (k h : ℕ). totals (λ u. pairs k h u.inner.made) in
          let mades : (k h : ℕ) → state_of now k h < stamp (k + 1) FREE
          → total (λ (u : SeatView J). pairs k h u.inner.made) (set s.views seat.id w)
          ≡ only (stamp k DONE) (state_of now k h) = λ k h l.
          let was = o.1.mades k h (omega (arith, (up.moves k h).0)) in
          omega (arith, makes k h, (counts k h).1 l) in (
            rw is (law.writes key words s.views seat.id r g i n v w e o.0 at_id
                (record { beside = idle; position = refl; all = refl; seats = refl; steps = refl })),
            record {
              long = length-set words word n ∙ o.1.long;
              cells = λ k h. dite (ℕ_discrete (at k h) (at r g))
                  (λ same. let gate = same_gate k h same in record {
                    state = rw (same, set_to) (omega arith);
                    round = rw (same, set_to) (omega (arith, up.rounds k, round k h same));
                    low = λ d. let two = rw (same, set_to) at d in let kr : k ≡ r = omega arith in
                        rw (kr, gate) ((right_halves (omega arith)).0 (omega arith));
                    high = λ d. let two = rw (same, set_to) at d in let kr : k ≡ r = omega arith in
                        rw (kr, gate) ((right_halves (omega arith)).1 (omega arith));
                  })
                  (λ ne. let c = o.1.cells k h in let same = stay k h ne in record {
                    state = rw same c.state;
                    round = rw same (omega (arith, c.round, up.rounds k));
                    low = rw (same, (halves k h ne).0) c.low;
                    high = rw (same, (halves k h ne).1) c.high;
                  });
              hands = λ k h. omega
                  (arith, totals (λ u. in_hand k h u.inner.hand), o.1.hands k h, (counts k h).0);
              once = λ k h. ⊎_elim (λ same. omega (arith, makes k h, o.1.once k h))
                  (λ l. omega (arith, mades k h l, only_le)) (counts k h).2;
              mades = mades;
              fits = each-set _ s.views seat.id w
                  (λ j u ne there. let theirs = o.1.fits j u there in
                  fits_last lay gates right job words now u up (λ k h ph e. halves k h (λ same.
                  let k_now = law.sees key words s.views j k u o.0 there (theirs.inside k h ph e) in
                  let kr : k ≡ r = sym k_now ∙ round k h same in
                  let it : in_hand r g u.inner.hand ≡ 1 =
                  rw (e, kr, same_gate k h same) (pair_same r g) in
                  let two = terms_le (λ (x : SeatView J). in_hand r g x.inner.hand) s.views
                  seat.id j v u ne at_id there in omega (arith, o.1.hands r g, own))) theirs)
                  (record {
                    holding = holding;
                    inside = λ k h phase has. p.inside ∙ ap Inside (sym (in_it k h phase has));
                    knows = knows (λ k h more. omega (arith, f.knows k h more, (up.moves k h).0));
                    looks = looks_last lay words now v.inner.looks up f.looks;
                    spent = λ none_left. absurd (real none_left);
                  });
            },
          )

      -- what the seat has in hand is in hand by its state word
      held : (s : State ℕ (SeatView J)) (phase : ℕ) → Holds s → get_elem? s.views seat.id ≡ some v
          → v.inner.hand ≡ Has r g phase
          → (in_hand r g v.inner.hand ≡ only (stamp r IN_HAND) (state_of s.words r g))
          × (state_of s.words r g ≡ stamp r IN_HAND)
      held s phase o at_id has =
          let le = term_le (λ (x : SeatView J). in_hand r g x.inner.hand) s.views seat.id v at_id in
          let own = ap (in_hand r g) has ∙ pair_same r g in
          let state = only_is (stamp r IN_HAND) (state_of s.words r g)
          (omega (arith, o.1.hands r g)) in
          (omega (arith, own, only_same _ _ state), sym state)

      pub claims : (old : ℕ) → v.inner.hand ≡ Empty → 0 < v.seats → 0 < looked r g old v.inner.looks
          → old ≤ stamp r FREE → Owes (at r g) (λ n. either (eqb n old) (stamp r IN_HAND) n)
          (claimed lay (step table.slots (at r g) old (stamp r IN_HAND) none) seat.me)
      claims old empty seated look free =
          owed (omega arith) (λ s h wide at_id small. let o = law.parts key s h in
          let f = o.1.fits seat.id v at_id in let found : ℕ = state_of s.words r g in
          let after = λ (hand : Hand). changed v hand v.inner.made (learnt v.inner.known r g found)
          v.inner.looks (Claim (at r g) found) in dite (ℕ_discrete found old)
          (λ hit. let rule = written s 0 (at r g) (stamp r IN_HAND) 1 (Has r g 0) v.inner.made
          v.inner.known (Claim (at r g) found) (λ b. refl, λ k. refl, refl) o at_id (omega arith)
          (omega arith) (omega arith) (omega arith) (omega arith) (omega arith)
          (get_or-set_same s.words (at r g) (stamp r IN_HAND) 0 (omega (arith, o.1.long, there)))
          (λ two. absurd (omega arith)) (omega (arith, ap (in_hand r g) empty, only_other))
          (omega (arith, pair_same r g, only_same)) (omega (arith, only_other))
          (λ k h apart. (apart ∙ sym (ap (in_hand k h) empty), refl))
          (λ l. absurd (omega arith), λ l. absurd (omega arith))
          (λ k h phase has. cc) (λ known. known) (λ none_left. omega arith) in
          let undone : Rule (set s.words (at r g) (stamp r IN_HAND))
          (set s.views seat.id (after (Has r g 0))) =
          rw (ne_eqb found (stamp r DONE) (λ two. omega arith)) rule in
          let says = here _ (finds s o at_id, inl hit, refl) in
          rw (eq-eqb found old hit) (after (Has r g 0), keeps, tt, kept _ undone, (refl, says)))
          (λ ne. let later : stamp r FREE < found = omega (arith, f.looks r g old look) in
          let rule = loaded s.words s.views (at r g) seat.id v (learnt v.inner.known r g found)
          v.inner.looks (Claim (at r g) found) (λ b. refl, λ k. refl, refl) o at_id
          (learns s.words v.inner.known r g f.knows) f.looks in
          let says = here _ (finds s o at_id, inr later, refl) in
          rw (ne_eqb found old ne) (after v.inner.hand, keeps, tt, kept _ rule, (refl, says))))

      half_right : (words : List ℕ) (i n : ℕ) → i < 2 → at r g + 2 < length words
          → right job r g i n → board.IsHandRight lay gates right job words (Has r g i)
          → board.IsHandRight lay gates right job (set words (at r g + suc i) n) (Has r g (i + 1))
      half_right words zero n two room is held =
          let stored = get_or-set_same words (at r g + 1) n 0 (omega arith) in
          (λ l. rw stored is, λ l. absurd (omega arith))
      half_right words (suc zero) n two room is held =
          let stored = get_or-set_same words (at r g + 2) n 0 room in
          let stays = get_or-set_other words (at r g + 2) (at r g + 1) n 0 (λ e. omega arith) in
          (λ l. rw stays (held.0 (omega arith)), λ l. rw stored is)
      half_right words (suc (suc i)) n two room is held = absurd (omega arith)

      -- half i of the gate in hand is stored, and is right
      pub stores_half : (i n : ℕ) → i < 2 → v.inner.hand ≡ Has r g i → right job r g i n
          → Owes (at r g + suc i) (λ _. n)
          (λ _. half_stored (step table.slots (at r g + suc i) n 0 none) seat.me n)
      stores_half i n two has is =
          owed (omega arith) (λ s h wide at_id small. let o = law.parts key s h in
          let f = o.1.fits seat.id v at_id in let word : ℕ = at r g + suc i in
          let one = held s i o at_id has in let state = one.1 in
          let rule = written s (suc i) word n 1 (Has r g (i + 1)) v.inner.made v.inner.known
          (Store word n) (λ b. refl, λ k. refl, refl) o at_id (omega arith) refl (omega arith)
          (omega arith) (omega arith) (omega arith)
          (get_or-set_other s.words word (at r g) n 0 (λ e. omega arith) ∙ state)
          (λ m. absurd (omega arith)) one.0 (omega (arith, pair_same r g, only_same))
          (omega (arith, only_other)) (λ k h apart. (sym (ap (in_hand k h) has), refl))
          (half_right s.words i n two (omega (arith, o.1.long, there)) is (rw has at f.holding))
          (λ k h ph e. cc) (λ known. known)
          (λ none_left. let gone = (f.spent none_left).0 in absurd (cc)) in
          (after_stored v r g (i + 1) word n, keeps, tt, kept _ rule, (refl, λ k h ph e. cc)))

      pub stores_done : v.inner.hand ≡ Has r g 2 → Owes (at r g) (λ _. stamp r DONE)
          (λ _. done_stored lay (step table.slots (at r g) (stamp r DONE) 0 none) seat.me
          (stamp r DONE))
      stores_done has = owed (omega arith) (λ s h wide at_id small. let o = law.parts key s h in
          let f = o.1.fits seat.id v at_id in let now = set s.words (at r g) (stamp r DONE) in
          let two : state_of now r g ≡ stamp r DONE =
          get_or-set_same s.words (at r g) (stamp r DONE) 0 (omega (arith, o.1.long, there)) in
          let one = held s 2 o at_id has in let state = one.1 in let halves = rw has at f.holding in
          let half : (j : ℕ) → get_or now (at r g + suc j) 0 ≡ get_or s.words (at r g + suc j) 0 =
          λ j. get_or-set_other s.words (at r g) _ (stamp r DONE) 0 (λ e. omega arith) in
          let adds = λ (k h : ℕ). total-append (is_pair k h) v.inner.made ((r, g) ∷ []) in
          let rule = written s 0 (at r g) (stamp r DONE) 2 Empty (v.inner.made ++ (r, g) ∷ [])
          ((r, g) ∷ v.inner.known) (Store (at r g) (stamp r DONE)) (λ b. refl, λ k. refl, refl)
          o at_id (omega arith) (omega arith) (omega arith) (omega arith) (omega arith) (omega arith)
          two (λ _. rw (half 0, half 1) halves) one.0 (omega (arith, only_other))
          (omega (arith, adds r g, pair_same r g, only_same))
          (λ k h apart. (sym (ap (in_hand k h) has ∙ apart), omega (arith, adds k h)))
          tt (λ k h phase e. absurd (cc)) (knows_too now v.inner.known r g (omega arith))
          (λ none_left. let gone = (f.spent none_left).0 in absurd (cc)) in
          (after_done lay v r g, keeps, tt, kept _ rule, (refl, λ k h ph e. cc)))

    -- a seat that stands for all has made each gate at most once in a round
    pub learns_once : (slots id : ℕ) (me : Me ℕ (SeatView J)) → me.0.all ≡ key.seats
        → Allows (holds key) slots id me 0 (λ n. n) (once_learnt (step slots 0 0 0 none) me)
    learns_once slots id me are s h wide at_id small = let o = law.parts key s h in
        let f = o.1.fits id me.0 at_id in let found : ℕ = get_or s.words 0 0 in
        let rule = loaded s.words s.views 0 id me.0 me.0.inner.known me.0.inner.looks (Load 0 found)
        (λ b. refl, λ k. refl, refl) o at_id f.knows f.looks in
        let alone = sees_all s.words s.views id me.0 o at_id are in
        let says : me.0.seats ≡ me.0.all → IsOnce me.0.inner.made =
        λ whole r g. omega (arith, (alone whole r g).1, o.1.once r g) in
        (after_half me.0 0 found, keeps, tt, kept _ rule, (refl, refl, says))
