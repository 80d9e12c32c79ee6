-- The order in which a worker steps the gates of a circuit.
use Rattle.std.specs.Prelude.{ℕ, ◌+◌, ◌*◌, ◌<◌, Bool, true, false}
use Rattle.gc_steps.specs.declared.answer.Answer.{Answer}
use Rattle.gc_steps.specs.declared.answer.Answer.TheVariants.{Made, Done, Taken, NotYet}
use Rattle.gc_steps.specs.declared.walk.GateGroup.{GateGroup}
use Rattle.gc_steps.specs.declared.walk.GateGroup.TheVariants.{One, Two, Four}

-- How many gates a circuit has, how many of them a pass has yet to come to, how many AND gates wait, and whether the
-- worker learnt of a gate in the pass.
pub record WalkState : Type 0 where
  pub gates : ℕ
  pub left : ℕ
  pub waiting : ℕ
  pub learnt : Bool

-- a bound on the groups that are left of a pass
abbrev pub groups_left : WalkState → ℕ
groups_left walk = 4 * walk.left + walk.waiting

-- The gates of a group are among this number of gates.
abbrev pub IsWithin : ℕ → GateGroup → Type 0
IsWithin gates (One a) = a < gates
IsWithin gates (Two a b) = (a < gates) × (b < gates)
IsWithin gates (Four g) = (g.a < gates) × (g.b < gates) × (g.c < gates) × (g.d < gates)

-- After this result the worker knows the gate to be done.
abbrev pub is_learnt : Answer → Bool
is_learnt (Made label) = true
is_learnt (Done label) = true
is_learnt Taken = false
is_learnt (NotYet w) = false

-- how many gates a step made, of which this is the result: 1 where it is Made, and else 0
abbrev pub made_now : Answer → ℕ
made_now (Made label) = 1
made_now (Done label) = 0
made_now Taken = 0
made_now (NotYet w) = 0
