-- What is in a view: where its seat is, and the record of its steps.
use Rattle.std.specs.Prelude.{ℕ, ◌+◌, ◌*◌, ◌-◌, ◌%◌, List, if◌then◌else◌}
use Rattle.gc_workers.specs.Counts.{total, only}
use Rattle.gc_rounds.specs.Words.{round_of, bank_of}
use Rattle.gc_rounds.specs.declared.words.TheConstants.{MARK, ROUND}
use Rattle.gc_rounds.specs.declared.view.Position.{Position}
use Rattle.gc_rounds.specs.declared.view.Position.TheVariants.{Outside, Inside, Passing}
use Rattle.gc_rounds.specs.declared.view.Step.{Step}
use Rattle.gc_rounds.specs.declared.view.Step.TheVariants.{Load, Store, Claim, Enter, Leave, Seal, Reopen}

-- 1 where the seat is counted in at bank b, and else 0
abbrev pub counted : ℕ → Position → ℕ
counted b Outside = 0
counted b (Inside r) = only b (bank_of r)
counted b (Passing c) = only b c

-- 1 where the step is a won exchange of the word of bank b, which gave the bank to its next round, and else 0
abbrev pub gives : ℕ → Step → ℕ
gives b (Load word found) = 0
gives b (Store word stored) = 0
gives b (Claim word found) = 0
gives b (Enter word found) = 0
gives b (Leave word found) = 0
gives b (Seal word found) = 0
gives b (Reopen word found won) = if won then only b word else 0

-- 1 where the step is such an exchange that didn't find its bank sealed with nobody counted in, and else 0
abbrev pub unfair : Step → ℕ
unfair (Load word found) = 0
unfair (Store word stored) = 0
unfair (Claim word found) = 0
unfair (Enter word found) = 0
unfair (Leave word found) = 0
unfair (Seal word found) = 0
unfair (Reopen word found won) = if won then 1 - only MARK (found % ROUND) else 0

-- how many steps of a record gave bank b to its next round
abbrev pub times_given : ℕ → List Step → ℕ
times_given b steps = total (gives b) steps

-- the round to which the steps of a record took bank b, which begins in round b
abbrev pub reached : ℕ → List Step → ℕ
reached b steps = b + 2 * times_given b steps

-- 1 where the step sealed round r, and else 0
abbrev pub seals_in : ℕ → Step → ℕ
seals_in r (Load word found) = 0
seals_in r (Store word stored) = 0
seals_in r (Claim word found) = 0
seals_in r (Enter word found) = 0
seals_in r (Leave word found) = 0
seals_in r (Seal word found) = only r (round_of found)
seals_in r (Reopen word found won) = 0

-- how many steps of a record sealed round r
abbrev pub sealed_in : ℕ → List Step → ℕ
sealed_in r steps = total (seals_in r) steps
