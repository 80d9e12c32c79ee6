-- What is left of a gathered pool, and one task that is taken from it.
use Rattle.gc_work.proofs.Names.{◌≡◌, ℕ, ◌+◌, ◌<◌, Bool, true, false, cond, List, [], ◌∷◌, ◌++◌, length, Option, Some, None, MatchOption, sym, refl, ap, ◌∙◌, append_assoc, arith, sum_by-cons, sum_by-append, sum_by_push, Task, PoolAccount, IsTakenFrom, weigh, account, all_parts, AccountsFor, AccountsForSome, IsGathered}
use Rattle.std.specs.Bool.{Decides}
use Rattle.std.specs.Set.{remove_key}
use Rattle.gc_work.specs.Left.{same_task, without, left_of}

-- `==` of two tasks holds exactly where they are the same
decides : (a b : Task) → Decides (same_task a b) (a ≡ b)
decides a b = grind arith

-- 1 at this task, and 0 at any other
abbrev is : Task → Task → ℕ
is task t = cond (same_task task t) 1 0

is_itself : (task : Task) → is task task ≡ 1
is_itself task = grind arith

-- a task that is in the list is taken from it
taken : (task : Task) (tasks : List Task) → 0 < weigh (is task) tasks
    → IsTakenFrom task tasks (remove_key (same_task task) tasks)
taken task [] some = absurd (omega arith)
taken task (t ∷ ts) some = by (same_task task t) refl (taken task ts)
  where
    by : (b : Bool) → same_task task t ≡ b
        → (0 < weigh (is task) ts → IsTakenFrom task ts (remove_key (same_task task) ts))
        → IsTakenFrom task (t ∷ ts) (cond b ts (t ∷ remove_key (same_task task) ts))
    by true same later = ([], ts, ap (λ x. x ∷ ts) (sym ((decides task t).0 same)), refl)
    by false other later =
        let rest = later (grind (arith, sum_by-cons (is task) t ts)) in
        (t ∷ rest.0, rest.1, ap (λ xs. t ∷ xs) rest.2, ap (λ xs. t ∷ xs) rest.3)

taken-weigh : (h : Task → ℕ) (task : Task) (before after : List Task)
    → IsTakenFrom task before after → weigh h before ≡ h task + weigh h after
taken-weigh h task before after (front, back, was, now) = grind (arith, sum_by-append, sum_by-cons)

-- where these tasks are, as counts, some that are gone and some that are left, they weigh without
-- the former what the latter weigh
without-weigh : (tasks gone left : List Task)
    → ((h : Task → ℕ) → weigh h tasks ≡ weigh h gone + weigh h left)
    → (h : Task → ℕ) → weigh h (without tasks gone) ≡ weigh h left
without-weigh tasks [] left same h = omega (arith, same h)
without-weigh tasks (t ∷ ts) left same h =
    let there = taken t tasks (omega (arith, same (is t), sum_by-cons (is t) t ts, is_itself t)) in
    without-weigh (remove_key (same_task t) tasks) ts left
    (λ k. omega (arith, same k, sum_by-cons k t ts, taken-weigh k t tasks _ there)) h

without-push : (tasks gone : List Task) (task : Task)
    → without tasks (gone ++ task ∷ []) ≡ remove_key (same_task task) (without tasks gone)
without-push tasks [] task = refl
without-push tasks (t ∷ ts) task = without-push (remove_key (same_task t) tasks) ts task

-- an account with all parts, which knows the tasks in the pool, is a gathered pool's
gathered : (v : PoolAccount) → v.parts ≡ all_parts → AccountsForSome v → IsGathered v
gathered v all (tasks, knows) = record {
  parts = all;
  conserved = λ h.
      let gone = v.stolen ++ v.popped in
      let left = without-weigh v.pushed gone tasks
      (λ k. omega (arith, knows.whole all k, sum_by-append k v.stolen v.popped)) h in
      omega (arith, knows.whole all h);
}

nothing : (tasks : List Task) → weigh (λ _. 1) tasks ≡ 0 → tasks ≡ []
nothing [] none = refl
nothing (t ∷ ts) none = absurd (omega (arith, sum_by-cons (λ (_ : Task). 1) t ts))

-- what an account with all parts says of the tasks in the pool
pub counted : (v w : PoolAccount) (count : ℕ) → w ≡ v → w.parts ≡ all_parts
    → (tasks : List Task) × (length tasks ≡ count) × AccountsFor v tasks → IsGathered w
counted v w count same all (tasks, _, knows) = gathered w all (tasks, rw same knows)

-- how `next` changes the account
abbrev pub HandsOut : PoolAccount → PoolAccount → Option Task → Type 0
HandsOut v w r = MatchOption r ((w ≡ v) × AccountsFor v [])
    (λ t. (w ≡ account v.parts v.pushed (v.popped ++ t ∷ []) v.stolen) × AccountsForSome w)

pub still_gathered : (v w : PoolAccount) (r : Option Task) → IsGathered v → HandsOut v w r
    → IsGathered w
still_gathered v w None g (same, _) = rw same g
still_gathered v w (Some task) g (is, knows) =
    gathered w (ap (λ (u : PoolAccount). u.parts) is ∙ g.parts) knows

-- what is left loses the task that was popped
pub takes_one : (v w : PoolAccount) (r : Option Task) → IsGathered v → HandsOut v w r
    → MatchOption r (left_of v ≡ []) (λ t. IsTakenFrom t (left_of v) (left_of w))
takes_one v w None g (_, empty) =
    nothing (left_of v) (omega (arith, g.conserved (λ _. 1), empty.whole g.parts (λ _. 1)))
takes_one v w (Some task) g (is_w, some) =
    let knows = rw is_w at some in
    let gone = v.stolen ++ v.popped in
    let more = sum_by_push (is task) v.popped task in
    rw (is_w, ← append_assoc v.stolen v.popped (task ∷ []), without-push v.pushed gone task)
    (taken task (left_of v) (grind (arith, g.conserved, knows.1.whole g.parts, is_itself task)))
