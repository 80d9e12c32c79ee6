use Rattle.gc_circuit.proofs.Names.{arith, common_steps, drop_all}
use Rattle.gc_circuit.proofs.CanonLines.{lines_none}
use Rattle.gc_circuit.proofs.circuit.Circuit.gate_lines.Goals as goal

pub loop-i-init : goal.loop-i-init
loop-i-init g c =
    let none = lines_none c.args.self.now.gates c.args.to in
    record {
      written = grind (arith, common_steps, none, drop_all 4096 c.args.room.now);
      place = omega arith;
      start = (omega arith, omega arith);
    }
