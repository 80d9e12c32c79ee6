use Rattle.gc_store.proofs.StoreLemmas.{take_keeps, taken_reads, claims, claims_none}
use Rattle.gc_store.proofs.partial.PartialGarbling.claim.Goals as goal

pub returns-in_err-gate : goal.returns-in_err-gate
returns-in_err-gate g c = rw (← c.self.view_is)
    (claims_none c.self.invariant.kept c.take.new.self _ c.from_residual.ensures
    c.in_err-gate.ensures)

pub invariant_of-self-2 : goal.invariant_of-self-2
invariant_of-self-2 g c = take_keeps c.self.invariant.kept c.take.new.self _ c.in_ok-gate.ensures

pub task-requires : goal.task-requires
task-requires g c = taken_reads c.self.invariant.kept c.take.new.self _ c.in_ok-gate.ensures

pub returns : goal.returns
returns g c = rw (← c.self.view_is)
    (claims c.self.invariant.kept c.take.new.self _ c.in_ok-gate.ensures _
    c.task.ensures.gate c.task.ensures.own)
