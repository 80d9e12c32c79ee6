-- What contracts see of a pool's owner, of its thieves, and of a pool that was gathered.
use Rattle.std.specs.Prelude.{◌≡◌, ℕ, ◌+◌, List, [], ◌++◌, ◌∷◌, sum_by}
use Rattle.atomic_blocks.specs.Lent.{RowsId}
use Rattle.gc_store.specs.declared.task.Task.{Task}

-- An owner: its pool, the capacity and the number of thieves that the pool was opened with, and the tasks that it
-- pushed and popped.
pub record OwnerParts (A : Type 0) : Type 0 where
  pub pool : RowsId × A
  pub capacity : ℕ
  pub thieves : ℕ
  pub pushed : List Task
  pub popped : List Task

-- A thief: its pool, and the tasks that it stole.
pub record ThiefParts (A : Type 0) : Type 0 where
  pub pool : RowsId × A
  pub stolen : List Task

-- A gathered pool: all the tasks that were pushed, popped and stolen, and those left. One that it hands out is popped.
pub record GatheredParts : Type 0 where
  pub pushed : List Task
  pub popped : List Task
  pub stolen : List Task
  pub left : List Task

module _ {A : Type 0} where
  -- the tasks that these thieves stole
  abbrev pub stolen_by : List (ThiefParts A) → List Task
  stolen_by [] = []
  stolen_by (t ∷ ts) = t.stolen ++ stolen_by ts

  -- These are all thieves of this pool.
  abbrev pub AllOf : RowsId × A → List (ThiefParts A) → Type 0
  AllOf pool [] = Unit {0}
  AllOf pool (t ∷ ts) = (t.pool ≡ pool) × AllOf pool ts

-- the tasks, weighed and added up
abbrev pub weigh : (Task → ℕ) → List Task → ℕ
weigh h tasks = sum_by h tasks

-- The tasks pushed are those popped, stolen and left, however tasks are weighed: each stands among them as often as it
-- was pushed.
abbrev pub IsConserved : List Task → List Task → List Task → List Task → Type 0
IsConserved pushed popped stolen left =
    (h : Task → ℕ) → weigh h pushed ≡ weigh h popped + weigh h stolen + weigh h left

-- The task is one of those before, and the rest stays, in its order.
abbrev pub IsTakenFrom : Task → List Task → List Task → Type 0
IsTakenFrom task before after =
    (front : List Task) × (back : List Task)
    × (before ≡ front ++ task ∷ back) × (after ≡ front ++ back)
