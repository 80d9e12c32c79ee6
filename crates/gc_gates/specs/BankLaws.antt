-- The rule of gates' words holds at the opening, and the dealing and joining of seats keep it, whatever their layout. Of
-- two banks the steps on the banks' words keep it too.
use Rattle.std.proofs.Common.{◌≡◌, ℕ, ◌+◌, ◌*◌, ◌<◌, ◌≤◌, ◌≢◌, List, [], ◌∷◌, ◌++◌, length, set, get_or, sym, refl, ap, ◌∙◌, inl, inr, ⊎_elim, arith, length-set, get_or-set_other, get_or-set_same, ◌⊎◌}
use mathlib.Core.Logic.{dite}
use native.Mathlib.Decide.{ℕ_discrete, dec_le}
use mathlib.Core.Option.{some}
use lib.ListN.{get_elem?}
use Rattle.atomic_table.proofs.Lists.{set_else}
use Rattle.gc_workers.specs.declared.states.TheConstants.{FREE}
use Rattle.gc_rounds.specs.Words.{round_of, bank_of, stamp}
use Rattle.gc_rounds.specs.Steps.{recorded, one_less, newcomer, merged, nobody, starting}
use Rattle.gc_rounds.specs.Laws.{Opens, Moves, DealsSeat, Joins}
use Rattle.gc_rounds.specs.declared.view.View.{View}
use Rattle.gc_workers.proofs.Sums.{total-append, total-set, total-dealt, total-joined, each-one, each-set, each-dealt, each-joined, only_other}
use Rattle.gc_gates.specs.Pairs.{is_pair, pairs, is_look, looked}
use Rattle.gc_gates.specs.Layout.{Layout, two_banks}
use Rattle.gc_gates.specs.Gates.{state_of, low_of, high_of, in_hand, IsHandRight, IsSoundView, Sound, first_view, fresh_view, no_view}
use Rattle.gc_gates.specs.Steps.{joined}
use Rattle.gc_gates.specs.Frame.{FrameLaw}
use Rattle.gc_rounds.specs.Banks.{BanksSound}
use Rattle.gc_rounds.proofs.Keeps.{step_on_another_word, bank_small}
use Rattle.gc_gates.specs.declared.view.GateView.{GateView}
use Rattle.gc_gates.specs.declared.view.Hand.TheVariants.{Empty, Has}
use Rattle.gc_gates.specs.declared.view.Hand.{Hand}

-- the view of a seat
abbrev pub SeatView : Type 0 → Type 0
SeatView J = View (GateView J)

-- What keeps the rule of gates' words, whatever their layout.
module _ (lay : Layout) where
  -- the halves of a gate are the same in both
  abbrev pub SameHalves : List ℕ → List ℕ → ℕ → ℕ → Type 0
  SameHalves before now k h =
      (low_of lay now k h ≡ low_of lay before k h) × (high_of lay now k h ≡ high_of lay before k h)

  -- what a list of looks says of the words
  abbrev pub Lasting : List ℕ → List (ℕ × ℕ × ℕ) → Type 0
  Lasting words looks = (k h n : ℕ) → 0 < looked k h n looks → (k ≤ lay.now words k)
      × ((state_of lay words k h ≡ n) ⊎ (stamp k FREE < state_of lay words k h))

  -- No round goes back, and a state that changes goes up, to a round that its bank has reached.
  pub record Up (before now : List ℕ) : Type 0 where
    pub rounds : (k : ℕ) → lay.now before k ≤ lay.now now k
    pub moves : (k h : ℕ) → (state_of lay before k h ≤ state_of lay now k h)
        × (k ≤ lay.now before k → (state_of lay now k h ≡ state_of lay before k h)
        ⊎ (stamp k FREE < state_of lay now k h))

  pub looks_last : (before now : List ℕ) (looks : List (ℕ × ℕ × ℕ)) → Up before now
      → Lasting before looks → Lasting now looks
  looks_last before now looks up f k h n more =
      let was = f k h n more in let goes = up.moves k h in (
        omega (arith, was.0, up.rounds k),
        ⊎_elim
            (λ is. ⊎_elim (λ same. inl (same ∙ is)) inr (goes.1 was.0))
            (λ later. inr (omega (arith, later, goes.0))) was.1,
      )

  module _ {J : Type 0} (gates : J → ℕ) (right : J → ℕ → ℕ → ℕ → ℕ → Type 0) (job : J) where
    abbrev Fits : List ℕ → SeatView J → Type 0
    Fits words v = IsSoundView lay gates right job words v

    abbrev Rule : List ℕ → List (SeatView J) → Type 0
    Rule words views = Sound lay gates right job words views

    hand_lasts : (before now : List ℕ) (hand : Hand)
        → ((k h phase : ℕ) → hand ≡ Has k h phase → SameHalves before now k h)
        → IsHandRight lay gates right job before hand → IsHandRight lay gates right job now hand
    hand_lasts before now Empty same f = tt
    hand_lasts before now (Has k h phase) same f =
        let e = same k h phase refl in rw (e.0, e.1) f

    -- what a view says lasts
    pub fits_last : (before now : List ℕ) (v : SeatView J) → Up before now
        → ((k h phase : ℕ) → v.inner.hand ≡ Has k h phase → SameHalves before now k h)
        → Fits before v → Fits now v
    fits_last before now v up halves f = record {
      holding = hand_lasts before now v.inner.hand halves f.holding;
      inside = f.inside;
      knows = λ k h more. omega (arith, f.knows k h more, (up.moves k h).0);
      looks = looks_last before now v.inner.looks up f.looks;
      spent = f.spent;
    }

    -- a view that says nothing of the words
    pub blank : (words : List ℕ) (v : SeatView J) → v.inner ≡ fresh_view v.inner → Fits words v
    blank words v new = let hand : v.inner.hand ≡ Empty = ap (λ x. x.hand) new in record {
      holding = rw hand tt;
      inside = λ k h phase has. absurd (cc);
      knows = λ k h more. absurd (omega (arith, ap (λ x. pairs k h x.known) new));
      looks = λ k h n more. absurd (omega (arith, ap (λ x. looked k h n x.looks) new));
      spent = λ _. (hand, ap (λ x. x.made) new);
    }

    -- the words at the opening, with one view
    pub opened : (words : List ℕ) (v : SeatView J) → length words ≡ lay.size (gates job)
        → ((k h : ℕ) → state_of lay words k h ≡ 0) → v.inner ≡ fresh_view v.inner
        → Rule words (v ∷ [])
    opened words v long free new = record {
      long = long;
      cells = λ k h. record {
        state = omega (arith, free k h);
        round = omega (arith, free k h);
        low = λ e. absurd (omega (arith, free k h));
        high = λ e. absurd (omega (arith, free k h));
      };
      hands = λ k h. rw new (omega (arith, free k h, only_other));
      once = λ k h. rw new (omega arith);
      mades = λ k h l. rw new (omega (arith, free k h, only_other));
      fits = each-one _ v (blank words v new);
    }

    -- a view is cut in two
    pub cut : (words : List ℕ) (views : List (SeatView J)) (id : ℕ) (v left other : SeatView J)
        → Rule words views → get_elem? views id ≡ some v
        → ((k h : ℕ) → in_hand k h left.inner.hand + in_hand k h other.inner.hand
        ≡ in_hand k h v.inner.hand)
        → ((k h : ℕ) → pairs k h left.inner.made + pairs k h other.inner.made
        ≡ pairs k h v.inner.made)
        → Fits words left → Fits words other → Rule words (set views id left ++ other ∷ [])
    cut words views id v left other o at hand made fit fit_other =
        let totals = λ (m : SeatView J → ℕ). total-dealt m views id v left other at in
        let makes = λ (k h : ℕ). totals (λ u. pairs k h u.inner.made) in record {
          long = o.long;
          cells = o.cells;
          hands = λ k h. omega
              (arith, totals (λ u. in_hand k h u.inner.hand), hand k h, o.hands k h);
          once = λ k h. omega (arith, makes k h, made k h, o.once k h);
          mades = λ k h l. omega (arith, makes k h, made k h, o.mades k h l);
          fits = each-dealt _ views id left other o.fits fit fit_other;
        }

    -- a view is joined to another
    pub joins_views : (words : List ℕ) (views : List (SeatView J)) (id other : ℕ) (v w : SeatView J)
        → Rule words views → get_elem? views id ≡ some v → other ≢ id
        → get_elem? (set views id (merged v w (joined v.inner w.inner))) other ≡ some w
        → w.inner.hand ≡ Empty
        → Rule words
        (set (set views id (merged v w (joined v.inner w.inner))) other (nobody no_view))
    joins_views words views id other v w o at apart there empty =
        let both = merged v w (joined v.inner w.inner) in let none_left = nobody no_view in
        let f = o.fits id v at in
        let theirs = o.fits other w (sym (set_else views id other both apart) ∙ there) in
        let totals = λ (m : SeatView J → ℕ).
        total-joined m views id other v both w none_left at there in
        let made = λ (k h : ℕ). total-append (is_pair k h) v.inner.made w.inner.made in
        let makes = λ (k h : ℕ). totals (λ u. pairs k h u.inner.made) in record {
          long = o.long;
          cells = o.cells;
          hands = λ k h. let none = ap (in_hand k h) empty in
              omega (arith, totals (λ u. in_hand k h u.inner.hand), o.hands k h);
          once = λ k h. omega (arith, makes k h, made k h, o.once k h);
          mades = λ k h l. omega (arith, makes k h, made k h, o.mades k h l);
          fits = each-joined _ views id other both none_left o.fits
              (record {
                holding = f.holding;
                inside = f.inside;
                knows = λ k h more.
                    let adds = total-append (is_pair k h) v.inner.known w.inner.known in
                    dite (dec_le 1 (pairs k h v.inner.known)) (f.knows k h)
                    (λ none. theirs.knows k h (omega arith));
                looks = λ k h n more.
                    let adds = total-append (is_look k h n) v.inner.looks w.inner.looks in
                    dite (dec_le 1 (looked k h n v.inner.looks)) (f.looks k h n)
                    (λ none. theirs.looks k h n (omega arith));
                spent = λ z. let a = f.spent (omega arith) in let b = theirs.spent (omega arith) in
                    (a.0, λ i. a.1 i ++ b.1 i);
              })
              (blank words none_left refl);
        }

module _ {J : Type 0} (gates : J → ℕ) (right : J → ℕ → ℕ → ℕ → ℕ → Type 0) where
  pub opens : Opens (Sound two_banks gates right) (λ job. 6 * gates job) first_view
  opens job jobs seats words fresh some_seat =
      opened two_banks gates right job words (starting jobs seats (first_view job)) fresh.long
      (λ r g. ap (λ x. get_or words x 0) (omega arith)
      ∙ fresh.others (6 * g + 3 * bank_of r)) refl

  pub moves : Moves (Sound two_banks gates right) (λ (v : GateView J). v.hand ≡ Empty)
  moves job words views id b n v position s o at_id small idle le =
      let now = set words b n in let w = recorded v position s in
      let stays : (i : ℕ) → 1 < i → get_or now i 0 ≡ get_or words i 0 =
      λ i l. get_or-set_other words b i n 0 (λ e. omega arith) in
      let state : (r g : ℕ) → state_of two_banks now r g ≡ state_of two_banks words r g =
      λ r g. stays _ (omega arith) in
      let halves : (r g : ℕ) → SameHalves two_banks words now r g =
      λ r g. (stays _ (omega arith), stays _ (omega arith)) in
      let up : Up two_banks words now = record {
        rounds = λ k. dite (ℕ_discrete (bank_of k) b)
            (λ is. rw (is, get_or-set_same words b n 0 (omega (arith, o.long))) le)
            (λ ne. rw (get_or-set_other words b (bank_of k) n 0 ne) (omega arith));
        moves = λ k h. (omega (arith, state k h), λ _. inl (state k h));
      } in
      let lasts = λ (u : SeatView J). fits_last two_banks gates right job words now u up
      (λ r g _ _. halves r g) in
      let mine = lasts v (o.fits id v at_id) in
      let totals = λ (m : SeatView J → ℕ). total-set m views id v w at_id in
      let makes = λ (r g : ℕ). totals (λ u. pairs r g u.inner.made) in record {
        long = length-set words b n ∙ o.long;
        cells = λ r g. let c = o.cells r g in record {
          state = rw (state r g) c.state;
          round = rw (state r g) (omega (arith, c.round, up.rounds r));
          low = rw (state r g, (halves r g).0) c.low;
          high = rw (state r g, (halves r g).1) c.high;
        };
        hands = λ r g. rw (state r g)
            (omega (arith, totals (λ u. in_hand r g u.inner.hand), o.hands r g));
        once = λ r g. omega (arith, makes r g, o.once r g);
        mades = λ r g. rw (state r g) (λ l. omega (arith, makes r g, o.mades r g l));
        fits = each-set _ views id w (λ j u ne there. lasts u (o.fits j u there)) (record {
          holding = mine.holding;
          inside = λ r g phase has. let was = mine.inside r g phase has in
              ⊎_elim (λ same. same ∙ was) (λ empty. absurd (cc)) idle;
          knows = mine.knows;
          looks = mine.looks;
          spent = mine.spent;
        });
      }

  pub deals : DealsSeat (Sound two_banks gates right) fresh_view
  deals job words views id v o at_id several =
      let f = o.fits id v at_id in
      cut two_banks gates right job words views id v (one_less v) (newcomer v (fresh_view v.inner))
      o at_id (λ r g. omega arith) (λ r g. omega arith)
      (record {
        holding = f.holding;
        inside = f.inside;
        knows = f.knows;
        looks = f.looks;
        spent = λ none_left. absurd (omega arith);
      })
      (blank two_banks gates right job words _ refl)

  pub joins : Joins (Sound two_banks gates right)
      (λ (v : GateView J). v.hand ≡ Empty) joined no_view
  joins job words views id other v w o at_id apart there out idle =
      joins_views two_banks gates right job words views id other v w o at_id apart there idle

  pub two_banks_law : FrameLaw two_banks gates right
      (λ key words views. BanksSound key.jobs key.seats words views)
      (λ key s. BanksSound key.jobs key.seats s.words s.views
      × Sound two_banks gates right key.about s.words s.views)
  two_banks_law = record {
    layout = record {
      apart = λ r g k h i j a b e. (omega arith, omega arith, omega arith);
      shared = λ words r g k h e. ap (λ b. round_of (get_or words b 0)) (omega arith);
      within = λ n r g below. omega arith;
      stays = λ words r g i n k. ap round_of
          (get_or-set_other words (two_banks.at r g + i) (bank_of k) n 0
          (λ e. omega (arith, bank_small k)));
    };
    parts = λ key s o. o;
    whole = λ key s o q. (o, q);
    sees = λ key words views id r v o at_id is. ((o.fits id v at_id).sees r is).0;
    dealt = λ key words views o. o.dealt;
    loads = λ key words views id v w e o at_id t.
        step_on_another_word key.jobs key.seats words words views id v w e o at_id o.wide
        (λ b l. refl) t.position t.all t.seats t.steps t.beside.0 t.beside.1 t.beside.2;
    writes = λ key words views id r g i n v w e o at_id t.
        step_on_another_word key.jobs key.seats words (set words (two_banks.at r g + i) n) views id
        v w e o at_id (omega (arith, o.wide, length-set words (two_banks.at r g + i) n))
        (λ b l. get_or-set_other words (two_banks.at r g + i) b n 0 (λ e. omega arith))
        t.position t.all t.seats t.steps t.beside.0 t.beside.1 t.beside.2;
  }
