-- What is left of a gathered pool.
use Rattle.std.specs.Prelude.{Bool, List, [], ◌∷◌, ◌++◌}
use Rattle.std.specs.Set.{remove_key}
use Rattle.gc_store.specs.declared.task.Task.{Task}
use Rattle.gc_store.specs.contracts.task.TaskPartialEq.TheImpl as tasks
use Rattle.gc_work.specs.declared.account.PoolAccount.{PoolAccount}

-- what `==` says of two tasks
abbrev pub same_task : Task → Task → Bool
same_task a b = tasks.eq-value.it a b

-- The first list without the tasks of the second: for each of these one that is equal goes, the first that there is.
abbrev pub without : List Task → List Task → List Task
without tasks [] = tasks
without tasks (t ∷ ts) = without (remove_key (same_task t) tasks) ts

-- the tasks that an account pushed, without those that it stole and popped
abbrev pub left_of : PoolAccount → List Task
left_of v = without v.pushed (v.stolen ++ v.popped)
