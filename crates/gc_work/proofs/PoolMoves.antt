-- Each move keeps the rule of a pool.
use Rattle.gc_work.proofs.Names.{◌≡◌, ℕ, zero, suc, ◌+◌, ◌-◌, ◌^◌, ◌<◌, ◌≤◌, List, [], ◌∷◌, ◌++◌, append_assoc, append-nil, set, sym, refl, ◌∙◌, arith, sum_by-cons, sum_by-append, sum_by_push, Task, PoolAccount, RowsId, ThiefParts, AllOf, stolen_by, weigh, IsOwning, account, total, gone, IsEmptyIfIdle, IdleIsEmpty, IsBalanced, AccountsFor, AccountsForSome}
use mathlib.Core.Option.{some, some-injective}
use lib.ListN.{get_elem?}
use Rattle.crossbeam_deque.specs.Tasks.{Pushes, Takes, Pops, Finds, Forks, Merges, Learns}
use Rattle.crossbeam_deque.proofs.Lists.{at_set, at_snoc, set_here}
use Rattle.crossbeam_deque.proofs.Phases.{at_lt}

-- a holder with no part
abbrev idle : PoolAccount
idle = account 0 [] [] []

abbrev parts : PoolAccount → ℕ
parts v = v.parts

abbrev pushed : (Task → ℕ) → PoolAccount → ℕ
pushed h v = weigh h v.pushed

-- the total after a change of one view
total_set : (f : PoolAccount → ℕ) (views : List PoolAccount) (port : ℕ) (v w : PoolAccount)
    → get_elem? views port ≡ some v → total f (set views port w) + f v ≡ total f views + f w
total_set f [] port v w at = cc
total_set f (x ∷ xs) zero v w at = grind (arith, sum_by-cons, some-injective x v at)
total_set f (x ∷ xs) (suc port) v w at = grind (arith, sum_by-cons, total_set f xs port v w at)

-- where no view has a part, nothing was done
none_done : (f : PoolAccount → ℕ) → f idle ≡ 0 → (views : List PoolAccount)
    → total (λ v. v.parts) views ≡ 0 → IdleIsEmpty views → total f views ≡ 0
none_done f none [] nil empty = refl
none_done f none (x ∷ xs) nil empty =
    let rest = none_done f none xs in
    let later = λ (port : ℕ). empty (suc port) in
    grind (arith, sum_by-cons parts x xs, sum_by-cons f x xs, rest, empty 0 x, later)

idle_set : (views : List PoolAccount) (port : ℕ) (w : PoolAccount) → IsEmptyIfIdle w
    → IdleIsEmpty views → IdleIsEmpty (set views port w)
idle_set views port w mine old j u e = grind (arith, at_set views port j w u e, mine, old j u)

idle_push : (views : List PoolAccount) (w : PoolAccount) → IsEmptyIfIdle w → IdleIsEmpty views
    → IdleIsEmpty (views ++ w ∷ [])
idle_push views w mine old j u e = grind (arith, at_snoc views w u j e, mine, old j u)

-- the view that has every part did all that was done
all_done : (f : PoolAccount → ℕ) → f idle ≡ 0
    → (views : List PoolAccount) (port : ℕ) (v : PoolAccount) → get_elem? views port ≡ some v
    → total (λ v. v.parts) views ≡ v.parts → IdleIsEmpty views → total f views ≡ f v
all_done f none views port v at whole empty =
    let without = none_done f none (set views port idle) in
    grind (arith, total_set, without, idle_set views port idle)

-- A view with a part may add tasks to one of its lists: what was pushed joins the pool, and what
-- was taken leaves it.
moves : (items items' : List Task) (views : List PoolAccount) (port : ℕ) (v w : PoolAccount)
    → 0 < v.parts → w.parts ≡ v.parts
    → ((h : Task → ℕ) → weigh h w.pushed + (gone h v + weigh h items)
    ≡ weigh h v.pushed + (gone h w + weigh h items'))
    → IsBalanced items views → get_elem? views port ≡ some v
    → (u : PoolAccount) × IsBalanced items' (set views port u) × (u ≡ w)
moves items items' views port v w part same step b at = (
  w,
  (
    omega (arith, total_set parts views port v w at, b.0),
    λ h. grind (arith, total_set, b.1 h, step h),
    idle_set views port w (λ none. absurd (omega arith)) b.2,
  ),
  refl,
)

pub pushes : (port : ℕ) (v : PoolAccount) (xs : List Task) → 0 < v.parts
    → Pushes IsBalanced port v xs (λ w. w ≡ account v.parts (v.pushed ++ xs) v.popped v.stolen)
pushes port v xs part items views b at = moves items (items ++ xs) views port v
    (account v.parts (v.pushed ++ xs) v.popped v.stolen) part refl
    (λ h. omega (arith, sum_by-append h v.pushed xs, sum_by-append h items xs)) b at

pub pops : (port : ℕ) (v : PoolAccount) → 0 < v.parts
    → Pops IsBalanced port v (λ xs w. w ≡ account v.parts v.pushed (v.popped ++ xs) v.stolen)
pops port v part x items views b at = moves (items ++ x ∷ []) items views port v
    (account v.parts v.pushed (v.popped ++ x ∷ []) v.stolen) part refl
    (λ h. omega (arith, sum_by_push h v.popped x, sum_by_push h items x)) b at

pub pops_first : (port : ℕ) (v : PoolAccount) (most : ℕ) → 0 < v.parts
    → Takes IsBalanced port v most (λ xs w. w ≡ account v.parts v.pushed (v.popped ++ xs) v.stolen)
pops_first port v most part xs items views _ _ b at = moves (xs ++ items) items views port v
    (account v.parts v.pushed (v.popped ++ xs) v.stolen) part refl
    (λ h. omega (arith, sum_by-append h v.popped xs, sum_by-append h xs items)) b at

pub steals : (port : ℕ) (v : PoolAccount) (most : ℕ) → 0 < v.parts
    → Takes IsBalanced port v most (λ xs w. w ≡ account v.parts v.pushed v.popped (v.stolen ++ xs))
steals port v most part xs items views _ _ b at = moves (xs ++ items) items views port v
    (account v.parts v.pushed v.popped (v.stolen ++ xs)) part refl
    (λ h. omega (arith, sum_by-append h v.stolen xs, sum_by-append h xs items)) b at

pub forks : (port : ℕ) (v : PoolAccount) → 1 < v.parts
    → Forks IsBalanced port v (account (v.parts - 1) v.pushed v.popped v.stolen)
    (account 1 [] [] [])
forks port v two items views b at =
    let l = account (v.parts - 1) v.pushed v.popped v.stolen in
    let r = account 1 [] [] [] in
    let vs = set views port l in (
      omega (arith, total_set parts views port v l at, sum_by_push parts vs r, b.0),
      λ h. grind (arith, total_set, sum_by_push, b.1 h),
      idle_push vs r (λ none. absurd (omega arith))
          (idle_set views port l (λ none. absurd (omega arith)) b.2),
    )

pub merges : (port : ℕ) (v : PoolAccount) (other : ℕ) (u : PoolAccount) → 0 < v.parts
    → u ≡ account 1 [] [] u.stolen → Merges IsBalanced port v other u
    (account (v.parts + u.parts) v.pushed v.popped (v.stolen ++ u.stolen)) idle
merges port v other u part is items views b at apart at' =
    let both = account (v.parts + u.parts) v.pushed v.popped (v.stolen ++ u.stolen) in
    let vs = set views port both in (
      omega (arith, total_set parts views port v both at, total_set parts vs other u idle at', b.0),
      λ h. grind (arith, total_set, b.1 h, is, sum_by-append h v.stolen u.stolen),
      idle_set vs other idle (λ _. refl)
          (idle_set views port both (λ none. absurd (omega arith)) b.2),
    )

pub learns : (port : ℕ) (v : PoolAccount) → Learns IsBalanced port v (AccountsFor v)
learns port v items views b at = record {
  bound = omega (arith, total_set parts views port v idle at, b.0);
  whole = λ all h.
      let s = all_done (pushed h) refl views port v at (b.0 ∙ sym all) b.2 in
      let t = all_done (gone h) refl views port v at (b.0 ∙ sym all) b.2 in
      omega (arith, b.1 h);
}

pub finds : (port : ℕ) (v : PoolAccount) → Finds IsBalanced port v (AccountsFor v [])
finds port v views b at = learns port v [] views b at

-- after a step that keeps the rule, the account knows the tasks in the pool
known : (items : List Task) (views : List PoolAccount) (port : ℕ) (v w : PoolAccount)
    → IsBalanced items (set views port w) → get_elem? views port ≡ some v → AccountsForSome w
known items views port v w b at =
    let here = set_here views port w (at_lt views port v at) in
    (items, learns port w items (set views port w) b here)

pub hands : (port : ℕ) (v : PoolAccount) → 0 < v.parts → Pops IsBalanced port v
    (λ xs w. (w ≡ account v.parts v.pushed (v.popped ++ xs) v.stolen) × AccountsForSome w)
hands port v part x items views b at =
    let step = pops port v part x items views b at in
    (step.0, step.1, (step.2, known items views port v step.0 step.1 at))

pub hands_first : (port : ℕ) (v : PoolAccount) (most : ℕ) → 0 < v.parts
    → Takes IsBalanced port v most
    (λ xs w. (w ≡ account v.parts v.pushed (v.popped ++ xs) v.stolen) × AccountsForSome w)
hands_first port v most part xs items views least few b at =
    let step = pops_first port v most part xs items views least few b at in
    (step.0, step.1, (step.2, known items views port v step.0 step.1 at))

module _ {A : Type 0} where
  pub AllOf-push : (pool : RowsId × A) (ts : List (ThiefParts A)) (t : ThiefParts A)
      → AllOf pool ts → t.pool ≡ pool → AllOf pool (ts ++ t ∷ [])
  AllOf-push pool [] t all here = (here, tt)
  AllOf-push pool (x ∷ xs) t all here = (all.0, AllOf-push pool xs t all.1 here)

  -- all but the last thief, and the last
  pub AllOf-front : (pool : RowsId × A) (ts : List (ThiefParts A)) (t : ThiefParts A)
      → AllOf pool (ts ++ t ∷ []) → AllOf pool ts
  AllOf-front pool [] t all = tt
  AllOf-front pool (x ∷ xs) t all = (all.0, AllOf-front pool xs t all.1)

  pub AllOf-last : (pool : RowsId × A) (ts : List (ThiefParts A)) (t : ThiefParts A)
      → AllOf pool (ts ++ t ∷ []) → t.pool ≡ pool
  AllOf-last pool [] t all = all.0
  AllOf-last pool (x ∷ xs) t all = AllOf-last pool xs t all.1

  -- one thief more
  pub stolen_by-push : (ts : List (ThiefParts A)) (t : ThiefParts A)
      → stolen_by (ts ++ t ∷ []) ≡ stolen_by ts ++ t.stolen
  stolen_by-push [] t = append-nil t.stolen
  stolen_by-push (x ∷ xs) t = rw (stolen_by-push xs t, append_assoc) refl

-- an owner that gave one part to a thief
pub one_less : (v w : PoolAccount) (room room' next next' capacity thieves : ℕ)
    → IsOwning v room next capacity thieves → w ≡ account (v.parts - 1) v.pushed v.popped v.stolen
    → room ≤ room' → next' ≡ next → thieves + 1 < 2 ^ 32
    → IsOwning w room' next' capacity (thieves + 1)
one_less v w room room' next next' capacity thieves o is more same few =
    grind (arith, o.nothing_stolen, o.parts, o.room, o.index, o.few)
