-- What the fields of an owner, of a thief and of a gathered pool keep.
use Rattle.std.specs.Prelude.{List, ◌≡◌, ℕ, ◌+◌, ◌≤◌, ◌<◌, ◌^◌, [], length, None}
use Rattle.crossbeam_deque.specs.Handles.{Pass, view}
use Rattle.gc_store.specs.declared.task.Task.{Task}
use Rattle.gc_work.specs.declared.account.PoolAccount.{PoolAccount}
use Rattle.gc_work.specs.Left.{left_of}
use Rattle.gc_work.specs.Pool.{IsConserved}
use Rattle.gc_work.specs.PoolRule.{account, all_parts}

-- An owner's account, the slots of its deque and the index of its next push, with the capacity and the number of
-- thieves that the pool was opened with.
pub record IsOwning (v : PoolAccount) (slots next capacity thieves : ℕ) : Type 0 where
  pub nothing_stolen : v.stolen ≡ []
  pub parts : v.parts + thieves ≡ all_parts
  pub few : thieves < 2 ^ 32
  pub room : capacity ≤ slots
  pub index : next ≤ length v.pushed

-- A thief has one part, and has done nothing but steal.
pub record IsThieving {A : Type 0} (p : Pass Task PoolAccount A) : Type 0 where
  pub role : view p ≡ account 1 [] [] (view p).stolen
  pub hand_free : p.me.hand ≡ None
  pub spare_free : p.me.spare ≡ None

-- the tasks that a thief's account has stolen
abbrev pub stolen_list : {A : Type 0} → Pass Task PoolAccount A → List Task
stolen_list p = (view p).stolen

-- A gathered pool's account has all parts, and its tasks are those popped, stolen and left.
pub record IsGathered (v : PoolAccount) : Type 0 where
  pub parts : v.parts ≡ all_parts
  pub conserved : IsConserved v.pushed v.popped v.stolen (left_of v)
