use Rattle.gc_bank.proofs.Names.{All, length, jobs_on, AreKnown, HasRoundBits}
use Rattle.gc_bank.proofs.together.kept_by.Given as goal

abbrev pub invariant-loop-round : goal.invariant-loop-round
invariant-loop-round g l = All (HasRoundBits (jobs_on l.banks)) l.kept.items
    × AreKnown (jobs_on l.banks) l.slots.items

abbrev pub decreases-loop-round : goal.decreases-loop-round
decreases-loop-round g l = length l.kept.items
