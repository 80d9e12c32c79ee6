-- The numbers of the refusals of a sealed task, and the task that each gives back.
use Rattle.std.specs.Prelude.{ℕ}
use Rattle.gc_store.specs.declared.task.Task.{Task}
use Rattle.gc_store.specs.declared.refusal.Refused.{Refused}
use Rattle.gc_store.specs.declared.refusal.Refused.TheVariants.{NotClaimed, OtherInputs}

abbrev pub code_of : Refused → ℕ
code_of (NotClaimed sealed) = 20
code_of (OtherInputs sealed) = 21

abbrev pub sealed_of : Refused → Task
sealed_of (NotClaimed sealed) = sealed
sealed_of (OtherInputs sealed) = sealed
