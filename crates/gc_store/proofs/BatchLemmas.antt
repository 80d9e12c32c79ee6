-- Batches of tasks: a task is put in or taken out, several are claimed into one, and finished.
use Rattle.gc_store.proofs.Names.{◌≡◌, ◌≢◌, List, [], ◌∷◌, ◌++◌, map, Option, Some, None, MatchOption, refl, arith, ℕ, ◌+◌, Bool, length, length-append, append_assoc, Ok, take, slice_get, inr, map_push, take_more, slice_get_within, get_or_from_slice_get, Task, Content, Claims, ClaimsAll, ClaimsSome, Finishes, FinishesEach}
use Rattle.gc_store.specs.Batch.{tasks_of}

-- places that all have a task
abbrev pub AreAll : List (Option Task) → Type 0
AreAll places = places ≡ map Some (tasks_of places)

pub tasks_of-more : (places : List (Option Task)) (task : Task)
    → tasks_of (places ++ Some task ∷ []) ≡ tasks_of places ++ task ∷ []
tasks_of-more [] task = refl
tasks_of-more (place ∷ places) task = grind (arith, tasks_of-more places task)

pub all-more : (places : List (Option Task)) (task : Task) → AreAll places
    → AreAll (places ++ Some task ∷ [])
all-more places task all =
    rw (tasks_of-more places task, map_push Some (tasks_of places) task, ← all) refl

not_none : (places : List (Option Task)) (tasks : List Task) → None ∷ places ≢ map Some tasks
not_none places [] is = cc
not_none places (task ∷ tasks) is = cc

-- once the last of such places is taken out all others have a task, as it does
all-less : (places : List (Option Task)) (last : Option Task) → AreAll (places ++ last ∷ [])
    → AreAll places × (last ≢ None)
all-less [] last all = grind arith
all-less (None ∷ places) last all = absurd (not_none _ _ all)
all-less (Some task ∷ places) last all = grind (arith, all-less places last)

module _ (places old : List (Option Task)) (last : Option Task)
    (was : old ≡ places ++ last ∷ []) (all : AreAll old) where
  pub still_all : AreAll places
  still_all = (all-less places last (rw was at all)).0

  -- what was taken out is a task
  pub taken : (now : List Task) → tasks_of old ≡ now
      → MatchOption last ((now ≡ []) × (tasks_of places ≡ []))
      (λ task. now ≡ tasks_of places ++ task ∷ [])
  taken now same =
      let parts = all-less places last (rw was at all) in grind (arith, parts.1, tasks_of-more)

-- ---- claiming and finishing several, one after another

-- How far claiming into a batch has come.
pub record HasClaimed (old : Content) (before : List Task) (answer : ℕ) (new : Content)
    (after : List Task) : Type 0 where
  pub tasks : List Task
  pub claims : ClaimsAll old tasks new
  pub answer_is : answer ≡ length tasks
  pub batch : after ≡ before ++ tasks

claims_more : (old middle new : Content) (tasks : List Task) (task : Task)
    → ClaimsAll old tasks middle → Claims middle (Some task) new
    → ClaimsAll old (tasks ++ task ∷ []) new
claims_more old middle new [] task all one = (new, rw all at one, refl)
claims_more old middle new (first ∷ tasks) task (next, claims, all) one =
    (next, claims, claims_more next middle new tasks task all one)

pub claimed_more : {old middle : Content} {before batch : List Task} {answer : ℕ}
    (new : Content) (after : List Task) (task : Task) → HasClaimed old before answer middle batch
    → Claims middle (Some task) new → after ≡ batch ++ task ∷ []
    → HasClaimed old before (answer + 1) new after
claimed_more {old = old} {middle = middle} {before = before} new after task has one more = record {
  tasks = has.tasks ++ task ∷ [];
  claims = claims_more old middle new has.tasks task has.claims one;
  answer_is = omega (arith, length-append has.tasks (task ∷ []), has.answer_is);
  batch = rw (more, has.batch) (append_assoc before has.tasks (task ∷ []));
}

-- Where no gate is ready, claiming ends.
pub claimed_end : {old middle : Content} {before after : List Task} {answer : ℕ} (new : Content)
    → HasClaimed old before answer middle after → Claims middle None new
    → ClaimsSome old before answer new after
claimed_end new has none = record {
  tasks = has.tasks;
  claims = rw none.1 has.claims;
  answer_is = has.answer_is;
  batch = has.batch;
  ends = inr (rw none.1 none.0);
}

finishes_more : (old middle new : Content) (tasks : List Task) (task : Task) (complete : Bool)
    → FinishesEach old tasks middle → Finishes middle task (Ok complete) new
    → FinishesEach old (tasks ++ task ∷ []) new
finishes_more old middle new [] task complete all one = (complete, new, rw all at one, refl)
finishes_more old middle new (first ∷ tasks) task complete (was, next, step, all) one =
    (was, next, step, finishes_more next middle new tasks task complete all one)

-- one more of a list of them
pub finishes_next : (old middle new : Content) (tasks : List Task) (n : ℕ) (task : Task)
    (complete : Bool) → FinishesEach old (take n tasks) middle
    → Finishes middle task (Ok complete) new → slice_get tasks n ≡ Some task
    → FinishesEach old (take (n + 1) tasks) new
finishes_next old middle new tasks n task complete all one at =
    let place = get_or_from_slice_get tasks n task task at in
    rw (take_more tasks n task (slice_get_within tasks n task at), place)
    (finishes_more old middle new (take n tasks) task complete all one)
