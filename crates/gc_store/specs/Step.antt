-- The steps of a store, as relations between its content before a call, the call's result and its content afterwards.
-- No step changes the circuit or the seed.
use Rattle.std.specs.Prelude.{◌≡◌, ℕ, ◌+◌, ◌<◌, ◌↔◌, Bool, IsTrue, if◌then◌else◌, List, map, sum, count_by, Option, Some, None, Result, Ok, Err, slice_get, slice_set, ◌⊎◌, [], ◌∷◌, ◌++◌, length}
use Rattle.gc_netlist.specs.declared.gate.Gate.{Gate}
use Rattle.gc_netlist.specs.Circuit.{is_and}
use Rattle.gc_store.specs.declared.task.Task.{Task}
use Rattle.gc_store.specs.declared.refusal.Refused.{Refused}
use Rattle.gc_store.specs.declared.refusal.Refused.TheVariants.{NotClaimed, OtherInputs}
use Rattle.gc_store.specs.declared.tally.TallyMissing.{TallyMissing}
use Rattle.gc_workers.specs.declared.TheConstants.{MAX_WORKERS}
use Rattle.gc_store.specs.Task.{task_of, sealed_zero_label, sealed_rows}
use Rattle.gc_store.specs.declared.batch.TheConstants.{BATCH_SIZE}
use Rattle.gc_store.specs.Account.{Account}
use Rattle.gc_store.specs.Content.{State, Free, Claimed, Finished, Content, is_claimed, is_finished, IsClaimed, IsReady, AllFinished}

-- The task is the store's task for its gate.
pub record IsOwnTask (s : Content) (task : Task) : Type 0 where
  pub gate : Gate
  pub at : slice_get s.circuit.gates task.gate ≡ Some gate
  pub same : task ≡ task_of s.circuit s.seed task.gate gate

-- The content with gate i in another state.
abbrev pub with_state : Content → ℕ → State → Content
with_state s i state = record s { states = slice_set s.states i state }

-- A claim: a ready gate is claimed from then on, and the result is its task. Where no gate is ready the result is None,
-- and nothing changes.
abbrev pub Claims : Content → Option Task → Content → Type 0
Claims old None new = ((i : ℕ) → ¬ IsReady old i) × (new ≡ old)
Claims old (Some task) new =
    IsReady old task.gate × IsOwnTask old task × (new ≡ with_state old task.gate Claimed)

-- Claims one after the other, with these tasks as their results.
abbrev pub ClaimsAll : Content → List Task → Content → Type 0
ClaimsAll old [] new = new ≡ old
ClaimsAll old (task ∷ tasks) new =
    (next : Content) × Claims old (Some task) next × ClaimsAll next tasks new

-- Claiming into a batch: tasks are claimed one after the other and put at the end of the batch, until it is full or no
-- gate is ready. Returns how many this call claimed.
pub record ClaimsSome (old : Content) (before : List Task) (answer : ℕ) (new : Content)
    (after : List Task) : Type 0 where
  pub tasks : List Task
  pub claims : ClaimsAll old tasks new
  pub answer_is : answer ≡ length tasks
  pub batch : after ≡ before ++ tasks
  pub ends : (length after ≡ BATCH_SIZE) ⊎ ((i : ℕ) → ¬ IsReady new i)

-- The content once a sealed task's gate is finished with its zero label and rows.
abbrev pub with_sealed : Content → Task → Content
with_sealed s task = record s {
  states = slice_set s.states task.gate (Finished (sealed_zero_label task) (sealed_rows task));
  rows = s.rows + (if is_and task.operation then 2 else 0);
}

-- Handing in a sealed task. Where its gate is not claimed it is refused as NotClaimed; else, where it is not the
-- store's task for that gate, as OtherInputs. A refusal gives the sealed task back and changes nothing. Else the gate
-- is finished, and it returns whether every gate now is.
abbrev pub Finishes : Content → Task → Result Bool Refused → Content → Type 0
Finishes old task (Ok complete) new =
    IsClaimed old task.gate × IsOwnTask old task × (new ≡ with_sealed old task)
    × (IsTrue complete ↔ AllFinished new)
Finishes old task (Err (NotClaimed back)) new =
    (¬ IsClaimed old task.gate) × (back ≡ task) × (new ≡ old)
Finishes old task (Err (OtherInputs back)) new =
    IsClaimed old task.gate × (¬ IsOwnTask old task) × (back ≡ task) × (new ≡ old)

-- Dealing a tally: a new one is 0, and there is none where all were dealt. The content stays.
abbrev pub Deals : Account → Option ℕ → Account → Type 0
Deals old None new = (old.tallies ≡ MAX_WORKERS) × (new ≡ old)
Deals old (Some tally) new =
    (old.tallies < MAX_WORKERS) × (tally ≡ 0) × (new ≡ record old { tallies = old.tallies + 1 })

-- Settling: with all the tallies that were dealt the result is their sum, which is the number of finished gates. Where
-- one is missing it is refused.
abbrev pub Settles : Account → List ℕ → Result ℕ TallyMissing → Type 0
Settles s tallies (Ok n) =
    (length tallies ≡ s.tallies) × (n ≡ sum tallies) × (n ≡ count_by is_finished s.content.states)
Settles s tallies (Err _) = length tallies < s.tallies

-- A claimed state is free again; others stay.
abbrev pub reopened : State → State
reopened Free = Free
reopened Claimed = Free
reopened (Finished label rows) = Finished label rows

-- Reopening: claimed gates are free again, and the result is how many they were.
abbrev pub ReopensClaimed : Content → ℕ → Content → Type 0
ReopensClaimed old answer new =
    (answer ≡ count_by is_claimed old.states)
    × (new ≡ record old { states = map reopened old.states })
