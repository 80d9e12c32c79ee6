use Rattle.std.proofs.Common.{arith}
use Rattle.gc_store.proofs.StoreLemmas.{label_count, garbling_is}
use Rattle.gc_store.proofs.partial.PartialGarbling.into_garbling.Goals as goal

pub from_parts-requires : goal.from_parts-requires
from_parts-requires g c =
    let kept = c.self.invariant.kept in
    omega (arith, label_count kept, c.output_wires.ensures, kept.lawful.circuit.outputs_fit)

pub returns-clause-complete : goal.returns-clause-complete
returns-clause-complete g c =
    let all = c.is_complete.ensures.complete.0 c.if-not-is_complete.false in
    let garbling = garbling_is c.self.invariant.kept (rw (← c.self.view_is) at all) in
    let parts = rw (c.into_entries.ensures, c.output_wires.ensures) at c.from_parts.ensures in
    (all, rw (← c.self.view_is, parts) garbling)
