use Rattle.gc_audit.proofs.Names.{◌≡◌, suc, ◌+◌, ap, arith, and_number, and_number-and, and_number-other}
use Rattle.gc_audit.proofs.rows.and_gate.Goals as goal

pub loop-i-preserved : goal.loop-i-preserved
loop-i-preserved g c =
    let circuit = c.args.circuit.now in let i = c.loop-i.i in
    let next : and_number circuit (suc i) ≡ and_number circuit (i + 1) =
    let e : suc i ≡ i + 1 = omega arith in ap (and_number circuit) e in
    grind (
      arith,
      and_number-and circuit i c.gate.result c.gate.ensures,
      and_number-other circuit i c.gate.result c.gate.ensures,
    )
