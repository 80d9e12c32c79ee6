-- What a batch holds.
use Rattle.std.specs.Prelude.{List, [], ◌∷◌, Option, Some, None}
use Rattle.gc_store.specs.declared.task.Task.{Task}

-- the tasks among these
abbrev pub tasks_of : List (Option Task) → List Task
tasks_of [] = []
tasks_of (None ∷ places) = tasks_of places
tasks_of (Some task ∷ places) = task ∷ tasks_of places
