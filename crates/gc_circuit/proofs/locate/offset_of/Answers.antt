use Rattle.gc_circuit.proofs.Names.{arith}
use Rattle.gc_netlist.proofs.PlaceLemmas.{spot_end}
use Rattle.gc_circuit.proofs.PlaceLemmas.{met_behind, met_token}
use Rattle.gc_circuit.proofs.locate.offset_of.Goals as goal

pub end_before-requires : goal.end_before-requires
end_before-requires c = (met_behind _ _ _ _ _ _ c.requires c.in-OutputUnset.is).1

pub start-requires : goal.start-requires
start-requires c =
    let due = met_token _ _ _ _ _ _ c.requires c.in_default.not-Truncated
    c.in_default.not-OutputUnset in
    record { before = due.1; next = due.2 }

pub returns-in-Truncated-clause-spot : goal.returns-in-Truncated-clause-spot
returns-in-Truncated-clause-spot c =
    λ m. rw (spot_end _ _ m.first c.in-Truncated.is) c.text_len.ensures

pub returns-in-OutputUnset-clause-spot : goal.returns-in-OutputUnset-clause-spot
returns-in-OutputUnset-clause-spot c =
    λ m. rw (met_behind _ _ _ _ _ _ m c.in-OutputUnset.is).0 c.end_before.ensures

pub returns-in_default : goal.returns-in_default
returns-in_default c = record {
  within = omega (arith, c.start.ensures.1);
  spot = λ m. rw (met_token _ _ _ _ _ _ m c.in_default.not-Truncated c.in_default.not-OutputUnset).0
      c.start.ensures;
}
