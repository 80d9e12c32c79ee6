-- The number of failures in a history.
use Rattle.std.specs.Prelude.{ℕ, ◌+◌}
use Rattle.gc_file.specs.declared.failures.History.{History, Start, After'}

abbrev pub number_of_failures : History → ℕ
number_of_failures Start = 0
number_of_failures (After' shape before) = number_of_failures before + 1
