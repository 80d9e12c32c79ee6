-- Making, joining and closing keep the rule of one board.
use Rattle.std.proofs.Common.{rules, ◌≡◌, ℕ, ◌+◌, ◌*◌, ◌<◌, List, [], ◌∷◌, sym, refl, ◌∙◌, arith, replicate}
use Rattle.std.proofs.lemmas.List.{length-replicate}
use Rattle.atomic_table.specs.Table.{State, Splits, Joins, Final, Seen}
use Rattle.gc_workers.proofs.Sums.{total-dealt, total-joined, each-one, each-dealt, each-joined, only_other, zeros}
use Rattle.gc_rounds.specs.Steps.{one_less, merged, nobody}
use Rattle.gc_rounds.specs.declared.view.View.{View}
use Rattle.gc_rounds.specs.declared.view.Key.{Key}
use Rattle.gc_rounds.specs.declared.view.Position.TheVariants.{Inside}
use Rattle.gc_gates.specs.Pairs.{pairs}
use Rattle.gc_gates.specs.Layout.{one_round}
use Rattle.gc_gates.specs.Gates.{in_hand, IsSoundView, Sound, no_view}
use Rattle.gc_gates.specs.Steps.{joined}
use Rattle.gc_gates.specs.Board.{Dealt, first_seat, dealt_seat, note_of, AtRest}
use Rattle.gc_gates.specs.BankLaws.{blank, opened, cut, joins_views}
use Rattle.gc_gates.specs.BoardLaw.{one_round_law}
use Rattle.gc_gates.specs.declared.view.GateView.{GateView}
use Rattle.gc_gates.specs.declared.view.Hand.TheVariants.{Empty}
use Rattle.gc_gates.proofs.Keeps.{sees_all}

module _ {J : Type 0} (gates : J → ℕ) (right : J → ℕ → ℕ → ℕ → ℕ → Type 0) (key : Key J) where
  abbrev Holds : State ℕ (View (GateView J)) → Type 0
  Holds s = Dealt key.seats s.views × Sound one_round gates right key.about s.words s.views

  abbrev Here : View (GateView J) → Type 0
  Here v = (r : ℕ) → v.position ≡ Inside r → r ≡ 0

  abbrev Fits : List ℕ → View (GateView J) → Type 0
  Fits words v = IsSoundView one_round gates right key.about words v

  pub opens : (n : ℕ) → n ≡ 3 * gates key.about + 1 → 0 < key.seats
      → Dealt key.seats (first_seat key ∷ [])
      × Sound one_round gates right key.about (replicate n 0) (first_seat key ∷ [])
  opens n is some_seat = (
    record { dealt = omega arith; here = each-one Here (first_seat key) (λ r e. cc) },
    opened one_round gates right key.about (replicate n 0) (first_seat key)
        (length-replicate n 0 ∙ is) (λ r g. zeros n (3 * g)) refl,
  )

  -- A view is cut in two. The first stays where it is.
  splits : (id : ℕ) (v left other : View (GateView J)) → left.seats + other.seats ≡ v.seats
      → left.position ≡ v.position → Here other
      → ((r g : ℕ) → in_hand r g left.inner.hand + in_hand r g other.inner.hand
      ≡ in_hand r g v.inner.hand)
      → ((r g : ℕ) → pairs r g left.inner.made + pairs r g other.inner.made
      ≡ pairs r g v.inner.made)
      → ((words : List ℕ) → Fits words v → Fits words left × Fits words other)
      → Splits Holds id v left other
  splits id v left other seats stays there hand made fit s o at =
      let both = fit s.words (o.1.fits id v at) in (
        record {
          dealt = omega (arith, total-dealt (λ u. u.seats) s.views id v left other at, o.0.dealt);
          here = each-dealt Here s.views id left other o.0.here
              (λ r e. o.0.here id v at r (sym stays ∙ e)) there;
        },
        cut one_round gates right key.about s.words s.views id v left other o.1 at hand made
            both.0 both.1,
      )

  pub deals : (id : ℕ) (v : View (GateView J)) → 1 < v.seats
      → Splits Holds id v (one_less v) (dealt_seat v)
  deals id v several = splits id v (one_less v) (dealt_seat v) (omega arith) refl (λ r e. cc)
      (λ r g. omega arith) (λ r g. omega arith)
      (λ words f. (search (rules, f), blank one_round gates right key.about words _ refl))

  pub notes : (id : ℕ) (v : View (GateView J)) → Splits Holds id v v (note_of v)
  notes id v = splits id v v (note_of v) (omega arith) refl (λ r e. absurd (cc))
      (λ r g. omega arith) (λ r g. omega arith) (λ words f. (f, search (rules, f)))

  pub joins : (id : ℕ) (v : View (GateView J)) (other : ℕ) (w : View (GateView J))
      → w.inner.hand ≡ Empty
      → Joins Holds id v other w (merged v w (joined v.inner w.inner)) (nobody no_view)
  joins id v other w empty s o at apart there =
      let both = merged v w (joined v.inner w.inner) in let none_left = nobody no_view in (
        record {
          dealt = omega (
            arith,
            total-joined (λ u. u.seats) s.views id other v both w none_left at there,
            o.0.dealt,
          );
          here = each-joined Here s.views id other both none_left o.0.here
              (o.0.here id v at) (λ r e. absurd (cc));
        },
        joins_views one_round gates right key.about s.words s.views id other v w o.1 at apart
            there empty,
      )

  -- a view that stands for all seats made what all made
  pub at_rest : (id : ℕ) (v : View (GateView J)) (ws : List ℕ) (xs : List ℕ) → v.all ≡ key.seats
      → v.seats ≡ v.all → Final (Seen Holds id v) ws xs
      → AtRest gates right key.about ws v.inner.made
  at_rest id v ws xs are whole f = let s = f.0 in let o = f.1.0 in
      let alone = sees_all one_round gates right _ _ (one_round_law gates right) key s.words
      s.views id v o f.1.1 are whole in rw (← f.2) (record {
        long = o.1.long;
        cells = λ g. o.1.cells 0 g;
        mades = λ g. let c = o.1.cells 0 g in
            omega (arith, (alone 0 g).1, o.1.mades 0 g, c.state, c.round);
        only_here = λ r g later. let c = o.1.cells r g in
            omega (arith, (alone r g).1, o.1.mades r g, c.state, c.round, only_other);
      })
