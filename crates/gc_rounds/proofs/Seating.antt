-- Making, dealing and joining seats keep the rule.
use Rattle.std.proofs.Common.{◌≡◌, ℕ, zero, suc, ◌+◌, ◌<◌, ◌≤◌, List, [], ◌∷◌, ◌++◌, length, set, get_or, sym, refl, ap, ◌∙◌, arith, replicate, get_or-set_other}
use Rattle.std.proofs.lemmas.Grind.{common_steps}
use mathlib.Core.Option.{some}
use lib.ListN.{get_elem?}
use Rattle.atomic_table.proofs.Lists.{set_else}
use Rattle.gc_rounds.specs.Words.{count_of, mark_of, round_of, bank_of}
use Rattle.gc_rounds.specs.Views.{counted, gives, times_given, unfair, seals_in, sealed_in}
use Rattle.gc_rounds.specs.Banks.{StandFits, BanksSound}
use Rattle.gc_rounds.specs.Steps.{one_less, newcomer, merged, nobody, starting}
use Rattle.gc_rounds.specs.Laws.{IsFresh}
use Rattle.gc_rounds.specs.declared.view.Position.TheVariants.{Outside}
use Rattle.gc_rounds.specs.declared.view.Step.{Step}
use Rattle.gc_rounds.specs.declared.view.View.{View}
use Rattle.gc_workers.proofs.Sums.{total-append, total-dealt, total-joined, each-one, each-dealt, each-joined, zeros}
use Rattle.gc_rounds.proofs.Keeps.{bank_small}

-- the words at the start
abbrev pub laid : ℕ → ℕ → List ℕ
laid size second = set (replicate (size + 2) 0) 1 second

laid_words : (size second : ℕ) → (length (laid size second) ≡ 2 + size)
    × (get_or (laid size second) 0 0 ≡ 0) × (get_or (laid size second) 1 0 ≡ second)
laid_words size second =
    (grind (arith, common_steps), grind (arith, common_steps), grind (arith, common_steps))

pub laid_fresh : (size second : ℕ) → round_of second ≡ 1 → IsFresh size (laid size second)
laid_fresh size second is = let words = laid_words size second in record {
  long = words.0;
  first = omega (arith, ap round_of words.1);
  second = ap round_of words.2 ∙ is;
  others = λ i. get_or-set_other (replicate (size + 2) 0) 1 (2 + i) second 0 (λ e. omega arith)
      ∙ zeros (size + 2) (2 + i);
}

module _ {I : Type 0} (jobs seats : ℕ) where
  -- a view that took no step yet, and is at no bank
  fresh : (words : List ℕ) (v : View I) → v.position ≡ Outside → v.steps ≡ []
      → (v.seats ≡ 0 → v.all ≡ 0) → StandFits jobs words v
  fresh words v out none spent = record {
    sees = λ r is. absurd (cc);
    few = rw out (omega arith);
    fair = rw none refl;
    spent = λ z. (spent z, λ b. rw none refl, λ r. rw none refl);
  }

  pub opens : (size second : ℕ) (inner : I) → round_of second ≡ 1 → count_of second ≡ 0
      → mark_of second < 2 → (1 < jobs → mark_of second ≡ 0) → 0 < seats → seats ≤ 64
      → BanksSound jobs seats (laid size second) (starting jobs seats inner ∷ [])
  opens size second inner round count mark unsealed some_seat small = record {
    wide = omega (arith, (laid_words size second).0);
    banks = λ b l. let t = bank b l in
        record { mark = t.1; count = sym t.2; round = omega (arith, t.0) };
    sealed = λ r near is. let t = bank (bank_of r) (bank_small r) in t.3 (omega (arith, t.0));
    early = λ r before. refl;
    dealt = omega arith;
    few = (some_seat, small);
    fits = each-one _ (starting jobs seats inner)
        (fresh (laid size second) _ refl refl (λ none_left. absurd (omega arith)));
  }
    where
      -- a bank's first round is its number, and it is open where there is such a job
      bank : (b : ℕ) → b < 2 → (round_of (get_or (laid size second) b 0) ≡ b)
          × (mark_of (get_or (laid size second) b 0) < 2)
          × (count_of (get_or (laid size second) b 0) ≡ 0)
          × (b < jobs → mark_of (get_or (laid size second) b 0) ≡ 0)
      bank zero l =
          rw (laid_words size second).1 (omega arith, omega arith, omega arith, λ _. omega arith)
      bank (suc zero) l = rw (laid_words size second).2 (round, mark, count, unsealed)
      bank (suc (suc b)) l = absurd (omega arith)

  pub deals : (words : List ℕ) (views : List (View I)) (id : ℕ) (v : View I) (inner : I)
      → BanksSound jobs seats words views → get_elem? views id ≡ some v → 1 < v.seats
      → v.position ≡ Outside
      → BanksSound jobs seats words (set views id (one_less v) ++ newcomer v inner ∷ [])
  deals words views id v inner o at several out =
      let left = one_less v in let other = newcomer v inner in let f = o.fits id v at in
      let totals = λ (m : View I → ℕ). total-dealt m views id v left other at in record {
        wide = o.wide;
        banks = λ b l. let d = o.banks b l in record {
          mark = d.mark;
          count = omega (arith, totals (λ u. counted b u.position), d.count);
          round = omega (arith, totals (λ u. times_given b u.steps), d.round);
        };
        sealed = λ r near is. omega (arith, totals (λ u. sealed_in r u.steps), o.sealed r near is);
        early = λ r before. omega (arith, totals (λ u. sealed_in r u.steps), o.early r before);
        dealt = omega (arith, totals (λ u. u.seats), o.dealt);
        few = o.few;
        fits = each-dealt _ views id left other o.fits
            (record {
              sees = f.sees;
              few = omega (arith, ap (counted 0) out, ap (counted 1) out);
              fair = f.fair;
              spent = λ none_left. absurd (omega arith);
            })
            (fresh words other refl refl (λ none_left. absurd (omega arith)));
      }

  pub joins : (words : List ℕ) (views : List (View I)) (id other : ℕ) (v w : View I)
      (inner spent : I) → BanksSound jobs seats words views → get_elem? views id ≡ some v
      → ¬ (other ≡ id) → get_elem? (set views id (merged v w inner)) other ≡ some w
      → w.position ≡ Outside
      → BanksSound jobs seats words (set (set views id (merged v w inner)) other (nobody spent))
  joins words views id other v w inner spent o at apart there out =
      let both = merged v w inner in let none_left = nobody spent in let f = o.fits id v at in
      let theirs = o.fits other w (sym (set_else views id other both apart) ∙ there) in
      let totals = λ (m : View I → ℕ). total-joined m views id other v both w none_left at there in
      let joined = λ (m : Step → ℕ). total-append m v.steps w.steps in
      let seals = λ (r : ℕ). totals (λ u. sealed_in r u.steps) in record {
        wide = o.wide;
        banks = λ b l. let d = o.banks b l in record {
          mark = d.mark;
          count = omega (arith, totals (λ u. counted b u.position), d.count, ap (counted b) out);
          round = omega (arith, totals (λ u. times_given b u.steps), joined (gives b), d.round);
        };
        sealed = λ r near is. omega (arith, seals r, joined (seals_in r), o.sealed r near is);
        early = λ r before. omega (arith, seals r, joined (seals_in r), o.early r before);
        dealt = omega (arith, totals (λ u. u.seats), o.dealt);
        few = o.few;
        fits = each-joined _ views id other both none_left o.fits
            (record {
              sees = f.sees;
              few = omega (arith, f.few);
              fair = omega (arith, joined unfair, f.fair, theirs.fair);
              spent = λ z. let p = f.spent (omega arith) in let q = theirs.spent (omega arith) in (
                p.0,
                λ b. omega (arith, joined (gives b), p.1 b, q.1 b),
                λ r. omega (arith, joined (seals_in r), p.2 r, q.2 r),
              );
            })
            (fresh words none_left refl refl (λ none. refl));
      }
