-- How a seat's view grows in a call inside a round, and what the results of a step say. Of a board the round is 0.
use Rattle.std.specs.Prelude.{◌≡◌, ◌≢◌, ℕ, ◌*◌, ◌<◌, ◌≤◌, ◌⊎◌, List, [], ◌∷◌, ◌++◌, length, slice_get, Some}
use Rattle.gc_netlist.specs.declared.gate.Gate.{Gate}
use Rattle.gc_netlist.specs.Circuit.{Netlist, IsSetBy, IsSet, input_wires, first_wire, second_wire}
use Rattle.gc_workers.specs.declared.states.TheConstants.{DONE, FREE, IN_HAND}
use Rattle.gc_workers.specs.Counts.{total, only}
use Rattle.gc_rounds.specs.Words.{stamp}
use Rattle.gc_rounds.specs.declared.view.View.{View}
use Rattle.gc_rounds.specs.declared.view.Step.{Step}
use Rattle.gc_rounds.specs.declared.view.Step.TheVariants.{Load, Store, Claim, Enter, Leave, Seal, Reopen}
use Rattle.gc_gates.specs.Pairs.{pairs, looked}
use Rattle.gc_gates.specs.Layout.{Layout}
use Rattle.gc_gates.specs.Steps.{changed}
use Rattle.gc_gates.specs.declared.view.GateView.{GateView}
use Rattle.gc_gates.specs.declared.view.Hand.TheVariants.{Empty, Has}
use Rattle.gc_job.specs.Job.{JobParts}
use Rattle.gc_job.specs.ActiveLabels.{active, active_from, set_of}
use Rattle.gc_steps.specs.declared.answer.Answer.{Answer}
use Rattle.gc_steps.specs.declared.answer.Answer.TheVariants.{Made, Done, Taken, NotYet}
use Rattle.gc_steps.specs.declared.round.Prepared.{Prepared}

-- what a seat knows and has done
abbrev pub Seen : Type 0 → Type 0
Seen J = View (GateView J)

-- Gate g reads wire w.
pub record Reads (c : Netlist) (g w : ℕ) : Type 0 where
  pub gate : Gate
  pub at : slice_get c.gates g ≡ Some gate
  pub reads : (first_wire gate.operation ≡ Some w) ⊎ (second_wire gate.operation ≡ Some w)

-- The active label of the wire that the gate sets follows from these, which it is said to read.
abbrev pub AreReadBy : JobParts → ℕ → ℕ × ℕ → Type 0
AreReadBy job g labels = active_from job g labels.0 labels.1 ≡ active job (set_of job g)

-- The result is Made.
abbrev pub IsMadeNow : Answer → Type 0
IsMadeNow (Made label) = Unit {0}
IsMadeNow (Done label) = ⊥
IsMadeNow Taken = ⊥
IsMadeNow (NotYet w) = ⊥

-- 1 where the step is a load or a claim that found this number at this word, and else 0
abbrev pub sighting : ℕ → ℕ → Step → ℕ
sighting word found (Load w n) = only word w * only found n
sighting word found (Store w n) = 0
sighting word found (Claim w n) = only word w * only found n
sighting word found (Enter w n) = 0
sighting word found (Leave w n) = 0
sighting word found (Seal w n) = 0
sighting word found (Reopen w n won) = 0

-- how many of the steps found this number at this word
abbrev pub sightings : ℕ → ℕ → List Step → ℕ
sightings word found steps = total (sighting word found) steps

-- A call made the view `new` out of `old`: at most this number of steps were added to the record, the made list is now
-- this list, what was known is known, and the stand and the hand are as before.
pub record Ran {J : Type 0} (old new : Seen J) (list : List (ℕ × ℕ)) (most : ℕ) : Type 0 where
  pub jobs : new.jobs ≡ old.jobs
  pub all : new.all ≡ old.all
  pub seats : new.seats ≡ old.seats
  pub position : new.position ≡ old.position
  pub about : new.inner.job ≡ old.inner.job
  pub hand : new.inner.hand ≡ old.inner.hand
  pub made : new.inner.made ≡ list
  pub known : (r g : ℕ) → pairs r g old.inner.known ≤ pairs r g new.inner.known
  pub looks : (r g n : ℕ) → looked r g n old.inner.looks ≤ looked r g n new.inner.looks
  pub added : List Step
  pub short : length added ≤ most
  pub steps : new.steps ≡ old.steps ++ added

-- A call left these as they were: the seat is where it was, and has in hand what it had.
pub record Stays {J : Type 0} (old new : Seen J) : Type 0 where
  pub jobs : new.jobs ≡ old.jobs
  pub all : new.all ≡ old.all
  pub seats : new.seats ≡ old.seats
  pub position : new.position ≡ old.position
  pub about : new.inner.job ≡ old.inner.job
  pub hand : new.inner.hand ≡ old.inner.hand

-- One of the steps that the call added found this number at this word.
abbrev pub Saw : {J : Type 0} → Seen J → Seen J → ℕ → ℕ → Type 0
Saw old new word found = sightings word found old.steps < sightings word found new.steps

-- One of them found gate g undone in round r: its state word of an earlier round, or of this one and not DONE.
abbrev pub SawUndone : {J : Type 0} → Layout → Seen J → Seen J → ℕ → ℕ → Type 0
SawUndone lay old new r g = (found : ℕ) × (found < stamp r DONE) × Saw old new (lay.at r g) found

-- The seat knows that gate g is done in round r.
abbrev pub Knows : {J : Type 0} → Seen J → ℕ → ℕ → Type 0
Knows v r g = 0 < pairs r g v.inner.known

-- A returned label is the active label of wire w in the round's job. The wire is set, and the gate that sets it is
-- known in the round.
pub record Got {J : Type 0} (job : JobParts) (r w : ℕ) (new : Seen J) (label : ℕ) : Type 0 where
  pub set : IsSet job.circuit w
  pub right : label ≡ active job w
  pub known : (h : ℕ) → IsSetBy job.circuit w h → Knows new r h

-- Wire w has no label: it is no input wire, and a gate that sets it was not known, and was found undone in the round.
pub record Lacks {J : Type 0} (lay : Layout) (job : JobParts) (r w : ℕ) (old new : Seen J)
    : Type 0 where
  pub no_input : w < input_wires job.circuit → ⊥
  pub unknown : (h : ℕ) → IsSetBy job.circuit w h
      → (pairs r h old.inner.known ≡ 0) × SawUndone lay old new r h

-- What a result for gate g in round r says. Made: the label is right in the round's job, the gate is known, and it was
-- not known. Done: the label is right, and the gate known. Taken: it was not known, and it was found IN_HAND in the
-- round. NotYet: it was not known, and it reads the wire, which lacks a label.
abbrev pub Says : {J : Type 0} → Layout → JobParts → ℕ → ℕ → Seen J → Seen J → Answer → Type 0
Says lay job r g old new (Made label) =
    (label ≡ active job (set_of job g)) × Knows new r g × (pairs r g old.inner.known ≡ 0)
Says lay job r g old new (Done label) = (label ≡ active job (set_of job g)) × Knows new r g
Says lay job r g old new Taken =
    (pairs r g old.inner.known ≡ 0) × Saw old new (lay.at r g) (stamp r IN_HAND)
Says lay job r g old new (NotYet w) =
    (pairs r g old.inner.known ≡ 0) × Reads job.circuit g w × Lacks lay job r w old new

-- the made list after a result for gate g in round r: Made alone appends to it, the gate with the round
abbrev pub made_after : ℕ → ℕ → List (ℕ × ℕ) → Answer → List (ℕ × ℕ)
made_after r g made (Made label) = made ++ (r, g) ∷ []
made_after r g made (Done label) = made
made_after r g made Taken = made
made_after r g made (NotYet w) = made

-- It was returned after at most this number of steps, which changed the made list by this result alone.
abbrev pub Answers : {J : Type 0} → Layout → JobParts → ℕ → ℕ → ℕ → Seen J → Seen J → Answer
    → Type 0
Answers lay job r g most old new answer =
    Says lay job r g old new answer × Ran old new (made_after r g old.inner.made answer) most

-- Two gates were returned at once, after at most this number of steps, which changed the made list by these results
-- alone, in this order.
abbrev pub AnswersTwo : {J : Type 0} → Layout → JobParts → ℕ → ℕ → ℕ → ℕ → Seen J → Seen J
    → Answer × Answer → Type 0
AnswersTwo lay job r g h most old new answers =
    Says lay job r g old new answers.0 × Says lay job r h old new answers.1
    × Ran old new (made_after r h (made_after r g old.inner.made answers.0) answers.1) most

-- The same of four gates.
abbrev pub AnswersFour : {J : Type 0} → Layout → JobParts → ℕ → ℕ → ℕ → ℕ → ℕ → ℕ → Seen J → Seen J
    → Answer × Answer × Answer × Answer → Type 0
AnswersFour lay job r a b c d most old new answers =
    Says lay job r a old new answers.0 × Says lay job r b old new answers.1
    × Says lay job r c old new answers.2 × Says lay job r d old new answers.3
    × Ran old new (made_after r d (made_after r c (made_after r b
    (made_after r a old.inner.made answers.0) answers.1) answers.2) answers.3) most

-- after gate g is taken in hand in round r, whose state word was found free
abbrev pub after_taken : {J : Type 0} → Layout → Seen J → ℕ → ℕ → ℕ → Seen J
after_taken lay v r g free =
    changed v (Has r g 0) v.inner.made v.inner.known v.inner.looks (Claim (lay.at r g) free)

-- The seat has nothing in hand, and is a seat still.
abbrev pub IsIdle : {J : Type 0} → Seen J → Type 0
IsIdle v = (v.inner.hand ≡ Empty) × (0 < v.seats)

-- The gate can be made in round r: its active label follows from the labels, and a load found its state word free.
pub record IsPrepared {J : Type 0} (job : JobParts) (r : ℕ) (v : Seen J) (ready : Prepared)
    : Type 0 where
  pub labels : AreReadBy job ready.gate ready.labels
  pub found : 0 < looked r ready.gate ready.free v.inner.looks
  pub free : ready.free ≤ stamp r FREE

-- The seat stands for all seats. Then the results follow from its made list alone.
abbrev pub IsAlone : {J : Type 0} → Seen J → Type 0
IsAlone v = v.seats ≡ v.all

-- A gate that sets wire w was made this number of times by the seat in round r.
abbrev pub SetsMade : {J : Type 0} → JobParts → ℕ → ℕ → Seen J → ℕ → Type 0
SetsMade job r w v n = (h : ℕ) → IsSetBy job.circuit w h → pairs r h v.inner.made ≡ n

-- The gates of all wires that gate g reads are made in round r.
abbrev pub ReadsMade : {J : Type 0} → JobParts → ℕ → ℕ → Seen J → Type 0
ReadsMade job r g old = (w : ℕ) → Reads job.circuit g w → SetsMade job r w old 1

-- Wire w is the first that gate g reads whose gate is not made in round r.
abbrev pub FirstLacking : {J : Type 0} → JobParts → ℕ → ℕ → Seen J → ℕ → Type 0
FirstLacking job r g old w =
    (gate : Gate) → slice_get job.circuit.gates g ≡ Some gate
    → ((first_wire gate.operation ≡ Some w) × SetsMade job r w old 0)
    ⊎ ((second_wire gate.operation ≡ Some w) × SetsMade job r w old 0
    × ((u : ℕ) → first_wire gate.operation ≡ Some u → SetsMade job r u old 1))

-- What the only seat is returned for gate g in round r: Done where it made the gate, else NotYet with the first wire
-- whose gate it hasn't made, else Made; and never Taken.
abbrev pub AnswersAlone : {J : Type 0} → JobParts → ℕ → ℕ → Seen J → Answer → Type 0
AnswersAlone job r g old (Made label) = (pairs r g old.inner.made ≡ 0) × ReadsMade job r g old
AnswersAlone job r g old (Done label) = pairs r g old.inner.made ≡ 1
AnswersAlone job r g old Taken = ⊥
AnswersAlone job r g old (NotYet w) = (pairs r g old.inner.made ≡ 0) × FirstLacking job r g old w

-- What it is returned for two gates at once: for each, where they are two, what a step of that gate alone is returned.
abbrev pub AnswersTwoAlone : {J : Type 0} → JobParts → ℕ → ℕ → ℕ → Seen J → Answer × Answer → Type 0
AnswersTwoAlone job r g h old answers =
    AnswersAlone job r g old answers.0 × (h ≢ g → AnswersAlone job r h old answers.1)
