use Rattle.std.proofs.Common.{length}
use Rattle.gc_store.proofs.tally.+add_up.Given as goal

abbrev pub decreases-add_up : goal.decreases-add_up
decreases-add_up g l = length l.tallies.now
