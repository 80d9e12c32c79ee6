-- What the frame of one board owes.
use Rattle.std.proofs.Common.{◌≡◌, ℕ, List, sym, refl, ◌∙◌, arith, set}
use mathlib.Core.Option.{some}
use lib.ListN.{get_elem?}
use Rattle.gc_workers.proofs.Sums.{total-set, each-set}
use Rattle.gc_rounds.specs.declared.view.View.{View}
use Rattle.gc_rounds.specs.declared.view.Position.TheVariants.{Inside}
use Rattle.gc_gates.specs.Layout.{one_round}
use Rattle.gc_gates.specs.Gates.{Sound}
use Rattle.gc_gates.specs.Board.{Dealt}
use Rattle.gc_gates.specs.Frame.{FrameLaw}
use Rattle.gc_gates.specs.declared.view.GateView.{GateView}

module _ {J : Type 0} (gates : J → ℕ) (right : J → ℕ → ℕ → ℕ → ℕ → Type 0) where
  moved : (seats : ℕ) (views : List (View (GateView J))) (id : ℕ) (v w : View (GateView J))
      → Dealt seats views → get_elem? views id ≡ some v → w.position ≡ v.position
      → w.seats ≡ v.seats
      → Dealt seats (set views id w)
  moved seats views id v w o at_id position parts = record {
    dealt = omega (
      arith,
      total-set (λ (u : View (GateView J)). u.seats) views id v w at_id,
      o.dealt,
    );
    here = each-set (λ (u : View (GateView J)). (r : ℕ) → u.position ≡ Inside r → r ≡ 0) views id w
        (λ j u ne there. o.here j u there) (λ r is. o.here id v at_id r (sym position ∙ is));
  }

  pub one_round_law : FrameLaw one_round gates right (λ key words views. Dealt key.seats views)
      (λ key s. Dealt key.seats s.views × Sound one_round gates right key.about s.words s.views)
  one_round_law = record {
    layout = record {
      apart = λ r g k h i j a b e. (omega arith, omega arith, omega arith);
      shared = λ words r g k h e. refl;
      within = λ n r g below. omega arith;
      stays = λ words r g i n k. refl;
    };
    parts = λ key s o. o;
    whole = λ key s o q. (o, q);
    sees = λ key words views id r v o at_id is. sym (o.here id v at_id r is);
    dealt = λ key words views o. o.dealt;
    loads = λ key words views id v w e o at_id t.
        moved key.seats views id v w o at_id t.position t.seats;
    writes = λ key words views id r g i n v w e o at_id t.
        moved key.seats views id v w o at_id t.position t.seats;
  }
