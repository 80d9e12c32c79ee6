-- Each kind of step on a bank's word keeps the rule.
use Rattle.std.proofs.Common.{◌≡◌, ℕ, zero, suc, ◌+◌, ◌*◌, ◌-◌, ◌%◌, ◌^◌, ◌<◌, ◌≤◌, ◌≢◌, ◌⊎◌, List, [], ◌∷◌, ◌++◌, length, min, set, get_or, sym, refl, ap, ◌∙◌, inl, inr, ⊎_elim, arith, eqb, eq-eqb, ne_eqb, length-set, get_or-set_other, get_or-set_same, true, false}
use Rattle.std.proofs.lemmas.Bool.Decides.{nat_tests}
use Rattle.std.specs.Int.Bits.{bit_or}
use mathlib.Core.Logic.{dite}
use native.Mathlib.Decide.{ℕ_discrete}
use mathlib.Core.Option.{none, some}
use lib.ListN.{get_elem?}
use prog.Atomic.{either}
use Rattle.atomic_table.specs.Table.{State, Me, Act, Valid, carried_after, step, keeps, stepped, Allows}
use Rattle.gc_workers.specs.Counts.{total, only}
use Rattle.gc_rounds.specs.Words.{count_of, mark_of, round_of, bank_of, open_word, shut_word}
use Rattle.gc_rounds.specs.Views.{counted, gives, unfair, seals_in}
use Rattle.gc_rounds.specs.Banks.{StandFits, BanksSound}
use Rattle.gc_rounds.specs.Steps.{recorded, viewed, position_after, entered, left, sealed, IsOwn}
use Rattle.gc_rounds.specs.Steps as bank_steps
use Rattle.gc_rounds.specs.Laws.{Moves}
use Rattle.gc_rounds.specs.declared.view.Position.{Position}
use Rattle.gc_rounds.specs.declared.view.Position.TheVariants.{Outside, Inside, Passing}
use Rattle.gc_rounds.specs.declared.view.Step.{Step}
use Rattle.gc_rounds.specs.declared.view.Step.TheVariants.{Enter, Leave, Seal, Reopen}
use Rattle.gc_rounds.specs.declared.view.View.{View}
use Rattle.gc_workers.proofs.Sums.{total-append, total-set, term_le, sole, each-set, only_same, only_other}
use Rattle.gc_rounds.proofs.WordLemmas.{added, taken, opened, shut, marked}

-- who is counted in at one bank is not counted in at another
counted_else : (b c : ℕ) (s : Position) → counted b s ≡ 1 → c ≢ b → counted c s ≡ 0
counted_else b c Outside one ne = refl
counted_else b c (Inside r) one ne = grind (arith, nat_tests)
counted_else b c (Passing d) one ne = grind (arith, nat_tests)

counted_once : (b : ℕ) (s : Position) → b < 2 → counted b s ≤ counted 0 s + counted 1 s
counted_once zero s l = omega arith
counted_once (suc zero) s l = omega arith
counted_once (suc (suc b)) s l = absurd (omega arith)

totals_le : {A : Type 0} (f g : A → ℕ) (l : List A)
    → ((j : ℕ) (u : A) → get_elem? l j ≡ some u → f u ≤ g u) → total f l ≤ total g l
totals_le f g [] le = omega arith
totals_le f g (x ∷ xs) le = omega (arith, le zero x refl, totals_le f g xs (λ j. le (suc j)))

pub bank_small : (r : ℕ) → bank_of r < 2
bank_small r = omega arith

-- What a step does at bank c, whose word it takes from `before` to `now`. Its seat goes from
-- position x to position y. A round r of this bank was sealed t times before.
record Turn (c before now : ℕ) (x y : Position) (s : Step) : Type 0 where
  pub mark : mark_of now < 2
  pub count : counted c y + count_of before ≡ counted c x + count_of now
  pub round : 2 * gives c s + round_of before ≡ round_of now
  -- the round stays, or nobody is counted in
  pub rest : (round_of now ≡ round_of before) ⊎ (count_of before ≡ 0)
  pub here : (r t : ℕ) → bank_of r ≡ c → round_of now ≡ r
      → (round_of before ≡ r → mark_of before ≡ min 1 t) → (round_of before < r → t ≡ 0)
      → mark_of now ≡ min 1 (t + seals_in r s)
  pub later : (r : ℕ) → bank_of r ≡ c → round_of now < r → seals_in r s ≡ 0

-- a step that leaves the round and the mark as they were
steady : (c before now : ℕ) (x y : Position) (s : Step) → mark_of before < 2
    → mark_of now ≡ mark_of before → round_of now ≡ round_of before
    → counted c y + count_of before ≡ counted c x + count_of now → gives c s ≡ 0
    → ((r : ℕ) → bank_of r ≡ c → seals_in r s ≡ 0) → Turn c before now x y s
steady c before now x y s small mark round count no_gift no_seal = record {
  mark = omega (arith, mark);
  count = count;
  round = omega (arith, no_gift);
  rest = inl round;
  here = λ r t at is was early. omega (arith, mark, no_seal r at, was (omega (arith, round, is)));
  later = λ r at l. no_seal r at;
}

module _ {I : Type 0} (jobs seats : ℕ) where
  -- a view that stands for all seats finds its own doing
  finds_own : (words : List ℕ) (views : List (View I)) (id r : ℕ) (v : View I)
      → BanksSound jobs seats words views → get_elem? views id ≡ some v → v.all ≡ seats → r < jobs
      → v.seats ≡ v.all → IsOwn v r (get_or words (bank_of r) 0)
  finds_own words views id r v o at are near whole =
      let all : total (λ (u : View I). u.seats) views ≡ v.seats = omega (arith, o.dealt) in
      let alone = λ (f : Step → ℕ). sole (λ (u : View I). total f u.steps) (λ u. u.seats) views id v
      at all in
      let gifts = alone (gives (bank_of r)) (λ j u there z. ((o.fits j u there).spent z).1 _) in
      let seals = alone (seals_in r) (λ j u there z. ((o.fits j u there).spent z).2 r) in record {
        round = omega (arith, (o.banks (bank_of r) (bank_small r)).round);
        mark = λ is. omega (arith, o.sealed r near is);
      }

  -- no bank counts more seats than there are
  counts_few : (words : List ℕ) (views : List (View I)) (b : ℕ) → BanksSound jobs seats words views
      → b < 2 → count_of (get_or words b 0) ≤ 64
  counts_few words views b o small =
      let le = totals_le (λ (u : View I). counted b u.position) (λ u. u.seats) views
      (λ j u at. omega (arith, counted_once b u.position small, (o.fits j u at).few)) in
      omega (arith, (o.banks b small).count, o.dealt, o.few.1)

  -- a step that changes the words of banks, and the view at id from v to w
  turned : (before now : List ℕ) (views : List (View I)) (id : ℕ) (v w : View I) (s : Step)
      → BanksSound jobs seats before views → get_elem? views id ≡ some v → 1 < length now
      → ((c : ℕ) → c < 2 → Turn c (get_or before c 0) (get_or now c 0) v.position w.position s)
      → w.seats ≡ v.seats → w.steps ≡ v.steps ++ s ∷ [] → StandFits jobs now w
      → BanksSound jobs seats now (set views id w)
  turned before now views id v w s o at wide turns parts steps mine =
      let totals = λ (m : View I → ℕ). total-set m views id v w at in
      let added : (f : Step → ℕ) → total (λ (u : View I). total f u.steps) (set views id w)
      ≡ total (λ (u : View I). total f u.steps) views + f s =
      λ f. let one_more = ap (total f) steps in
      omega (arith, totals (λ u. total f u.steps), total-append f v.steps (s ∷ [])) in record {
        wide = wide;
        banks = λ c l. let d = o.banks c l in let t = turns c l in record {
          mark = t.mark;
          count = omega (arith, totals (λ u. counted c u.position), d.count, t.count);
          round = omega (arith, added (gives c), d.round, t.round);
        };
        sealed = λ r near is. let t = turns (bank_of r) (bank_small r) in
            omega (arith, added (seals_in r), t.here r _ refl is (o.sealed r near) (o.early r));
        early = λ r before. let t = turns (bank_of r) (bank_small r) in
            let none = o.early r (omega (arith, t.round)) in
            omega (arith, added (seals_in r), t.later r refl before);
        dealt = omega (arith, totals (λ u. u.seats), o.dealt);
        few = o.few;
        fits = each-set _ views id w (λ j u ne there. let f = o.fits j u there in record {
          sees = λ r is. let b = bank_of r in let g = f.sees r is in (
            ⊎_elim (λ stays. stays ∙ g.0) (λ nobody_in.
                let in_it = term_le (λ (x : View I). counted b x.position) views j u there in
                let count = (o.banks b (bank_small r)).count in
                absurd (omega (arith, ap (counted b) is, only_same))) (turns b (bank_small r)).rest,
            g.1,
          );
          few = f.few;
          fair = f.fair;
          spent = f.spent;
        }) mine;
      }

-- where a seat is counted in after an entry into round r, and where it is inside
stands_counted : (r n c : ℕ) → counted c (position_after r n) ≡ only c (bank_of r)
stands_counted r n c = grind (arith, nat_tests)

stands_inside : (r n k : ℕ) → position_after r n ≡ Inside k → (k ≡ r) × (round_of n ≡ r)
stands_inside r n k e = (grind (arith, nat_tests), grind (arith, nat_tests))

module _ {T I : Type 0} (jobs seats : ℕ) (about : T) (holds : T → List ℕ → List (View I)
    → Type 0) (idle : I → Type 0) (law : Moves holds idle) where
  module _ {S : Type 0} (slots id : ℕ) (me : Me S (View I)) (are : me.0.all ≡ seats) where
    abbrev Holds : State S (View I) → Type 0
    Holds s = BanksSound jobs seats s.words s.views × holds about s.words s.views

    -- a step that changes the word of bank b alone, and keeps every slot
    steps_on : (s : State S (View I)) (b n : ℕ) (position : Position) (e : Step) → Holds s
        → get_elem? s.views id ≡ some me.0 → b < 2
        → Turn b (get_or s.words b 0) n me.0.position position e
        → ((c : ℕ) → c ≢ b → (counted c position ≡ counted c me.0.position) × (gives c e ≡ 0))
        → ((r : ℕ) → bank_of r ≢ b → seals_in r e ≡ 0)
        → ((r : ℕ) → position ≡ Inside r → (bank_of r ≡ b) × (round_of n ≡ r) × (r < jobs))
        → counted 0 position + counted 1 position ≤ me.0.seats → unfair e ≡ 0
        → (position ≡ me.0.position) ⊎ idle me.0.inner → (w : View I) × (a : Act S)
        × Valid s.homes me.1 a × Holds (stepped s b n id me.1 w a)
        × viewed me (get_or s.words b 0) (w, carried_after me.1 a) (recorded me.0 position e)
    steps_on s b n position e o at small turn others no_seal sees few fair rest =
        let v = me.0 in let now = set s.words b n in
        let here : get_or now b 0 ≡ n = get_or-set_same s.words b n 0 (omega (arith, o.0.wide)) in (
          recorded v position e,
          keeps,
          tt,
          (
            turned jobs seats s.words now s.views id v (recorded v position e) e o.0 at
                (omega (arith, o.0.wide, length-set s.words b n))
                (λ c l. dite (ℕ_discrete c b) (λ is. rw (is, here) turn)
                (λ ne. rw (get_or-set_other s.words b c n 0 ne) (steady c (get_or s.words c 0)
                (get_or s.words c 0) v.position position e (o.0.banks c l).mark refl refl
                (omega (arith, (others c ne).0)) (others c ne).1
                (λ r at_c. no_seal r (λ at_b. ne (sym at_c ∙ at_b))))))
                refl refl
                (record {
                  sees = λ r is. let t = sees r is in (rw (t.0, here) t.1, t.2);
                  few = few;
                  fair = omega
                      (arith, total-append unfair v.steps (e ∷ []), (o.0.fits id v at).fair);
                  spent = λ none_left. absurd (omega
                      (arith, ((o.0.fits id v at).spent none_left).0, are, o.0.few.0));
                }),
            law about s.words s.views id b n v position e o.1 at small rest
                (omega (arith, turn.round)),
          ),
          (refl, (o.0.banks b small).mark, refl),
        )

    pub counts_in : (r : ℕ) → me.0.position ≡ Outside → 0 < me.0.seats → idle me.0.inner → r < jobs
        → Allows Holds slots id me (bank_of r) (λ n. (n + 1) % 2 ^ 64)
        (entered r (step slots (bank_of r) 1 0 none) me)
    counts_in r out seated rest near s o wide at small =
        let v = me.0 in let b : ℕ = bank_of r in let n : ℕ = get_or s.words b 0 in
        let position = position_after r n in let d = o.0.banks b (bank_small r) in
        let few = counts_few jobs seats s.words s.views b o.0 (bank_small r) in
        let a = added n small (omega arith) in
        let outside : (c : ℕ) → counted c v.position ≡ 0 = λ c. ap (counted c) out in
        let t = steps_on s b ((n + 1) % 2 ^ 64) position (Enter b n) o at (bank_small r)
        (steady b n ((n + 1) % 2 ^ 64) v.position position (Enter b n) d.mark a.mark a.round
        (omega (arith, a.count, stands_counted r n b, only_same, outside b))
        refl (λ k _. refl))
        (λ c ne. (stands_counted r n c ∙ only_other c b ne ∙ sym (outside c), refl))
        (λ k _. refl)
        (λ k is. let t = stands_inside r n k is in rw t.0 (refl, a.round ∙ t.1, near))
        (grind (arith, nat_tests, stands_counted r n 0, stands_counted r n 1))
        refl (inr rest) in
        (t.0, t.1, t.2, t.3, (t.4, finds_own jobs seats s.words s.views id r v o.0 at are near))

    pub counts_out : (b : ℕ) → b < 2 → counted b me.0.position ≡ 1 → idle me.0.inner
        → Allows Holds slots id me b (λ n. (n + (2 ^ 64 - 1)) % 2 ^ 64)
        (left (step slots b 1 0 none) me)
    counts_out b two inside rest s o wide at small =
        let v = me.0 in let n : ℕ = get_or s.words b 0 in let d = o.0.banks b two in
        let some_in : 0 < count_of n =
        omega (arith, d.count, term_le (λ (x : View I). counted b x.position) s.views id v at) in
        let after : ℕ = (n + (2 ^ 64 - 1)) % 2 ^ 64 in let a = taken n small some_in in
        steps_on s b after Outside (Leave b n) o at two
        (steady b n after v.position Outside (Leave b n) d.mark a.mark a.round
        (omega (arith, a.count, inside, some_in)) refl (λ k _. refl))
        (λ c ne. (sym (counted_else b c v.position inside ne), refl)) (λ k _. refl)
        (λ k is. absurd (cc)) (omega arith) refl (inr rest)

    pub seals : (r : ℕ) → me.0.position ≡ Inside r → Allows Holds slots id me (bank_of r)
        (λ n. bit_or n 65536) (sealed (step slots (bank_of r) 65536 0 none) me)
    seals r inside s o wide at small =
        let v = me.0 in let b : ℕ = bank_of r in let n : ℕ = get_or s.words b 0 in
        let d = o.0.banks b (bank_small r) in let f = o.0.fits id v at in
        let a = marked n d.mark in let g = f.sees r inside in
        steps_on s b (bit_or n 65536) v.position (Seal b n) o at (bank_small r)
        (record {
          mark = omega (arith, a.mark);
          count = omega (arith, a.count);
          round = omega (arith, a.round);
          rest = inl a.round;
          here = λ k t at_b is was early. omega (arith, a.mark, a.round, only_same);
          later = λ k at_b before. omega (arith, a.round, only_other);
        })
        (λ c ne. (refl, refl))
        (λ k ne. only_other k (round_of n) (λ e. ne (omega (arith, e, d.round))))
        (λ k is. let same : k ≡ r = cc in rw same (refl, a.round ∙ g.0, g.1))
        f.few refl (inl refl)

    pub gives_on : (r : ℕ) → me.0.position ≡ Outside → Allows Holds slots id me (bank_of r)
        (λ n. either (eqb n (shut_word r)) (open_word (r + 2)) n)
        (bank_steps.tried (step slots (bank_of r) (shut_word r) (open_word (r + 2)) none) me)
    gives_on r out s o wide at small =
        let v = me.0 in let b : ℕ = bank_of r in let n : ℕ = get_or s.words b 0 in
        let d = o.0.banks b (bank_small r) in let f = o.0.fits id v at in
        dite (ℕ_discrete n (shut_word r))
        (λ is. let p = shut r in let q = opened (r + 2) in rw (eq-eqb n (shut_word r) is) (
        steps_on s b (open_word (r + 2)) v.position (Reopen b n true) o at (bank_small r)
        (record {
          mark = omega (arith, q.mark);
          count = omega (arith, q.count, p.count, ap count_of is);
          round = omega (arith, q.round, p.round, ap round_of is, only_same);
          rest = inr (ap count_of is ∙ p.count);
          here = λ k t at_b is' was early.
              omega (arith, q.mark, early (omega (arith, q.round, p.round, ap round_of is)));
          later = λ k at_b before. refl;
        })
        (λ c ne. (refl, only_other c b ne)) (λ k _. refl) (λ k is'. absurd (cc)) f.few
        (omega (arith, ap (λ x. x % 4294967296) is, only_same)) (inl refl)))
        (λ ne. rw (ne_eqb n (shut_word r) ne) (
        steps_on s b n v.position (Reopen b n false) o at (bank_small r)
        (steady b n n v.position v.position (Reopen b n false) d.mark refl refl refl refl
        (λ k _. refl)) (λ c ne'. (refl, refl)) (λ k _. refl) (λ k is'. absurd (cc)) f.few
        refl (inl refl)))

-- a step on another word than the banks', by a seat that stays where it is
pub step_on_another_word : {I : Type 0} (jobs seats : ℕ) (before now : List ℕ)
    (views : List (View I)) (id : ℕ) (v w : View I) (s : Step) → BanksSound jobs seats before views
    → get_elem? views id ≡ some v → 1 < length now
    → ((b : ℕ) → b < 2 → get_or now b 0 ≡ get_or before b 0) → w.position ≡ v.position
    → w.all ≡ v.all → w.seats ≡ v.seats → w.steps ≡ v.steps ++ s ∷ [] → ((b : ℕ) → gives b s ≡ 0)
    → ((r : ℕ) → seals_in r s ≡ 0) → unfair s ≡ 0 → BanksSound jobs seats now (set views id w)
step_on_another_word jobs seats before now views id v w s o at wide same position all parts
    steps no_gift
    no_seal fair =
    let f = o.fits id v at in
    let counts : (b : ℕ) → counted b w.position ≡ counted b v.position =
    λ b. ap (counted b) position in
    let none_more : (m : Step → ℕ) → m s ≡ 0 → total m w.steps ≡ total m v.steps =
    λ m no. omega (arith, ap (total m) steps, total-append m v.steps (s ∷ [])) in
    turned jobs seats before now views id v w s o at wide
    (λ c l. rw (same c l) (steady c (get_or before c 0) (get_or before c 0) v.position w.position s
    (o.banks c l).mark refl refl (omega (arith, counts c)) (no_gift c) (λ r _. no_seal r)))
    parts steps
    (record {
      sees = λ r is. let g = f.sees r (sym position ∙ is) in
          (ap round_of (same (bank_of r) (bank_small r)) ∙ g.0, g.1);
      few = omega (arith, counts 0, counts 1, f.few);
      fair = none_more unfair fair ∙ f.fair;
      spent = λ none_left. let p = f.spent (sym parts ∙ none_left) in (
        all ∙ p.0,
        λ b. none_more (gives b) (no_gift b) ∙ p.1 b,
        λ r. none_more (seals_in r) (no_seal r) ∙ p.2 r,
      );
    })
