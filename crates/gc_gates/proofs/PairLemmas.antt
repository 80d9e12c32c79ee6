-- Pairs and stamps, as numbers.
use Rattle.std.proofs.Common.{◌≡◌, ℕ, zero, suc, ◌<◌, List, [], ◌∷◌, refl, arith}
use Rattle.std.proofs.lemmas.Bool.Decides.{nat_tests}
use mathlib.Core.Logic.{dite}
use native.Mathlib.Decide.{dec_le}
use mathlib.Core.Option.{some}
use lib.ListN.{get_elem?}
use Rattle.gc_workers.specs.Counts.{total}
use Rattle.gc_gates.specs.Pairs.{is_pair, is_look}
use Rattle.gc_gates.specs.Gates.{in_hand}
use Rattle.gc_gates.specs.declared.view.Hand.{Hand}
use Rattle.gc_gates.specs.declared.view.Hand.TheVariants.{Empty, Has}

pub pair_same : (r g : ℕ) → is_pair r g (r, g) ≡ 1
pair_same r g = grind (arith, nat_tests)

pub pair_is : (r g : ℕ) (p : ℕ × ℕ) → 0 < is_pair r g p → (r ≡ p.0) × (g ≡ p.1)
pair_is r g p some_times = grind (arith, nat_tests)

pub look_is : (r g n : ℕ) (t : ℕ × ℕ × ℕ) → 0 < is_look r g n t → (r ≡ t.0) × (g ≡ t.1) × (n ≡ t.2)
look_is r g n t some_times = grind (arith, nat_tests)

pub someone : {A : Type 0} (f : A → ℕ) (l : List A) → 0 < total f l → (j : ℕ) × (u : A)
    × (get_elem? l j ≡ some u) × (0 < f u)
someone f [] more = absurd (omega arith)
someone f (x ∷ xs) more = dite (dec_le 1 (f x)) (λ y. (zero, x, refl, y))
    (λ n. let t = someone f xs (omega arith) in (suc t.0, t.1, t.2, t.3))

pub hand_is : (r g : ℕ) (hand : Hand) → 0 < in_hand r g hand → (phase : ℕ) × (hand ≡ Has r g phase)
hand_is r g Empty more = absurd (omega arith)
hand_is r g (Has k h phase) more = let e = pair_is r g (k, h) more in (phase, rw (e.0, e.1) refl)
