-- The rule of a pool, over the tasks in it and an account for each of its holders.
use Rattle.std.specs.Prelude.{◌≡◌, ℕ, ◌+◌, ◌^◌, ◌≤◌, List, [], sum_by}
use mathlib.Core.Option.{some}
use lib.ListN.{get_elem?}
use Rattle.gc_store.specs.declared.task.Task.{Task}
use Rattle.gc_work.specs.declared.account.PoolAccount.{PoolAccount}
use Rattle.gc_work.specs.Pool.{weigh}

-- all parts of the right to know the whole
abbrev pub all_parts : ℕ
all_parts = 2 ^ 33

abbrev pub account : ℕ → List Task → List Task → List Task → PoolAccount
account parts pushed popped stolen = record {
  parts = parts;
  pushed = pushed;
  popped = popped;
  stolen = stolen;
}

-- a number for each account, added up
abbrev pub total : (PoolAccount → ℕ) → List PoolAccount → ℕ
total f accounts = sum_by f accounts

-- what an account's holder took, weighed
abbrev pub gone : (Task → ℕ) → PoolAccount → ℕ
gone h v = weigh h v.popped + weigh h v.stolen

-- A holder with no part has done nothing.
abbrev pub IsEmptyIfIdle : PoolAccount → Type 0
IsEmptyIfIdle v = v.parts ≡ 0 → v ≡ account 0 [] [] []

abbrev pub IdleIsEmpty : List PoolAccount → Type 0
IdleIsEmpty accounts = (port : ℕ) (v : PoolAccount) → get_elem? accounts port ≡ some v
    → IsEmptyIfIdle v

-- What was pushed is what was taken and what the pool holds, however tasks are weighed.
abbrev pub IsBalanced : List Task → List PoolAccount → Type 0
IsBalanced tasks accounts =
    (total (λ v. v.parts) accounts ≡ all_parts)
    × ((h : Task → ℕ)
    → total (λ v. weigh h v.pushed) accounts ≡ total (gone h) accounts + weigh h tasks)
    × IdleIsEmpty accounts

-- What an account says of the tasks in the pool: with all parts, they are those pushed and not taken.
pub record AccountsFor (v : PoolAccount) (tasks : List Task) : Type 0 where
  pub bound : v.parts ≤ all_parts
  pub whole : v.parts ≡ all_parts → (h : Task → ℕ) → weigh h v.pushed ≡ gone h v + weigh h tasks

-- What an account says where the tasks in the pool are not named.
abbrev pub AccountsForSome : PoolAccount → Type 0
AccountsForSome v = (tasks : List Task) × AccountsFor v tasks
