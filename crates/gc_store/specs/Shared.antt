-- What handing in to a shared store does to the tally and the batch that are lent to it.
use Rattle.std.specs.Prelude.{◌≡◌, ℕ, ◌+◌, ◌⊎◌, ◌↔◌, IsTrue, Bool, true, false, List, [], ◌∷◌, ◌++◌, length, take, Some, Result, Ok, Err, slice_get}
use Rattle.gc_store.specs.declared.task.Task.{Task}
use Rattle.gc_store.specs.declared.refusal.Refused.{Refused}
use Rattle.gc_store.specs.declared.shared.Finding.{Finding}
use Rattle.gc_store.specs.declared.shared.Finding.TheVariants as finding
use Rattle.gc_store.specs.declared.shared.Notify.{Notify}
use Rattle.gc_store.specs.declared.shared.Notify.TheVariants as notify
use Rattle.gc_store.specs.Content.{Content, IsClaimed, IsReady, AllFinished}
use Rattle.gc_store.specs.Refusal.{sealed_of}
use Rattle.gc_store.specs.Step.{Claims, ClaimsSome, Finishes}

-- Tasks were added to a batch.
abbrev pub ClaimsMore : List Task → List Task → Type 0
ClaimsMore old new = (tasks : List Task) × (new ≡ old ++ tasks)

-- Handing in one sealed task: where it is accepted the tally is one more, and tasks were added to the batch. A refusal
-- gives the sealed task back, and tally and batch stay.
abbrev pub HandsIn : Task → ℕ → List Task → Result Bool Refused → ℕ → List Task → Type 0
HandsIn task tally batch (Ok _) tally' batch' = (tally' ≡ tally + 1) × ClaimsMore batch batch'
HandsIn task tally batch (Err refused) tally' batch' =
    (sealed_of refused ≡ task) × (tally' ≡ tally) × (batch' ≡ batch)

-- Finishing several, one after another: where all are accepted the tally is more by their number. A refusal gives back
-- the first that was refused, and the tally is more by the number of those before it.
abbrev pub FinishesAll : {X : Type 0} → List Task → ℕ → Result X Refused → ℕ → Type 0
FinishesAll tasks tally (Ok _) tally' = tally' ≡ tally + length tasks
FinishesAll tasks tally (Err refused) tally' =
    (n : ℕ) × (slice_get tasks n ≡ Some (sealed_of refused)) × (tally' ≡ tally + n)

-- Handing in several: they are finished, and where all are accepted tasks were added to the batch. After a refusal the
-- batch stays.
abbrev pub HandsInAll : List Task → ℕ → List Task → Result Bool Refused → ℕ → List Task → Type 0
HandsInAll tasks tally batch (Ok complete) tally' batch' =
    FinishesAll {X = Bool} tasks tally (Ok complete) tally' × ClaimsMore batch batch'
HandsInAll tasks tally batch (Err refused) tally' batch' =
    FinishesAll {X = Bool} tasks tally (Err refused) tally' × (batch' ≡ batch)

-- A gate is claimed.
abbrev pub HasClaimed : Content → Type 0
HasClaimed s = (i : ℕ) × IsClaimed s i

-- No gate is ready.
abbrev pub NoneReady : Content → Type 0
NoneReady s = (i : ℕ) → ¬ IsReady s i

-- Looking for a task in a store that was stopped or not: a task that is claimed; later, where no gate is ready but one
-- is claimed; or nothing, where the store was stopped or no gate is ready and none is claimed.
abbrev pub Looks : Bool → Content → Finding → Content → Type 0
Looks stopped old (finding.Task task) new = (stopped ≡ false) × Claims old (Some task) new
Looks stopped old finding.Later new =
    (stopped ≡ false) × (new ≡ old) × NoneReady old × HasClaimed old
Looks stopped old finding.Nothing new =
    (new ≡ old) × ((stopped ≡ true) ⊎ (NoneReady old × (¬ HasClaimed old)))

-- Claiming into a batch in a store that was stopped or not: gates are claimed one after another, and their tasks are
-- put at the end of the batch in this order. After a stop nothing is claimed.
abbrev pub ClaimsUnless : Bool → Content → List Task → Content → List Task → Type 0
ClaimsUnless true old before new after = (new ≡ old) × (after ≡ before)
ClaimsUnless false old before new after = (n : ℕ) × ClaimsSome old before n new after

-- Sealed tasks are finished one after another.
abbrev pub FinishesEach : Content → List Task → Content → Type 0
FinishesEach old [] new = new ≡ old
FinishesEach old (task ∷ tasks) new =
    (complete : Bool) × (next : Content) × Finishes old task (Ok complete) next
    × FinishesEach next tasks new

-- The same up to the first that is refused, if one is: task n.
abbrev pub FinishesUpTo : {X : Type 0} → Content → List Task → Result X Refused → Content → Type 0
FinishesUpTo old tasks (Ok _) new = FinishesEach old tasks new
FinishesUpTo old tasks (Err refused) new =
    (n : ℕ) × (task : Task) × (middle : Content) × (slice_get tasks n ≡ Some task)
    × FinishesEach old (take n tasks) middle × Finishes middle task (Err refused) new

-- Handing in, in one critical section: sealed tasks are finished, and where none is refused gates are claimed into the
-- batch. Returns whether every gate is finished.
abbrev pub HandsOver : Bool → Content → List Task → List Task → Result Bool Refused → Content
    → List Task → Type 0
HandsOver stopped old tasks before (Ok complete) new after =
    (middle : Content) × FinishesEach old tasks middle
    × ClaimsUnless stopped middle before new after
    × (IsTrue complete ↔ AllFinished new)
HandsOver stopped old tasks before (Err refused) new after =
    FinishesUpTo {X = Bool} old tasks (Err refused) new × (after ≡ before)

-- Whom a hand-in wakes of the threads that sleep, and how many sleep then. It wakes nobody only where nobody sleeps, or
-- no gate is ready and one is claimed; and all where none is claimed.
abbrev pub Wakes : Content → ℕ → Notify → ℕ → Type 0
Wakes s before notify.None after = (after ≡ before) × ((before ≡ 0) ⊎ (HasClaimed s × NoneReady s))
Wakes s before notify.One after = (before ≡ after + 1) × HasClaimed s
Wakes s before notify.All after = (after ≡ 0) × (¬ HasClaimed s)
