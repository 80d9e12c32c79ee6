use Rattle.gc_store.proofs.Names.{◌≡◌, ◌+◌, take, FinishesEach}
use Rattle.gc_store.proofs.shared.LockedStore.finish_all.Given as goal

abbrev pub invariant-loop-task : goal.invariant-loop-task
invariant-loop-task g l = record {
  tally : l.tally ≡ l.initial.tally + l.task-index;
  content : FinishesEach l.initial.self.store.content (take l.task-index l.sealed)
      l.self.store.content;
  stopped : l.self.stopped ≡ l.initial.self.stopped;
  sleeping : l.self.sleeping ≡ l.initial.self.sleeping;
}
