use Rattle.gc_circuit.proofs.Names.{◌≢◌, ◌∙◌, rules, Memory}
use Rattle.gc_circuit.proofs.circuit.Circuit.locate.Goals as goal

pub returns : goal.returns
returns g c =
    let other : c.in-Err.stop.fault ≢ Memory = search rules in
    let whole = c.in-Err.ensures.kept ∙ c.new-tokens.ensures.whole in
    let m = rw c.new-tokens.ensures.all at c.in-Err.ensures.met other in
    let spot = rw whole at c.offset_of.ensures.spot in
    record {
      first = m.first;
      lowest = m.lowest;
      in_gate = m.in_gate;
      at_wire = m.at_wire;
      offset = c.offset_of.result;
      spot = spot m;
      in_line = c.line_after.ensures;
      in_column = c.column_after.ensures;
    }
