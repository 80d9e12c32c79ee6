use Rattle.gc_work.proofs.Names.{◌-◌, length, count_by}
use Rattle.gc_store.specs.Content.{is_finished}
use Rattle.gc_work.proofs.sweep.sweep.Given as goal

-- how many gates are not finished
abbrev pub decreases-loop-task : goal.decreases-loop-task
decreases-loop-task g l =
    length l.store.content.states - count_by is_finished l.store.content.states
