use Rattle.gc_half.proofs.Names.{◌≡◌, [], arith, input_labels}
use Rattle.gc_half.proofs.StreamingLemmas.{seed-begun}
use Rattle.gc_half.proofs.streaming_garbler.StreamingGarbler.begin_under_seed.Goals as goal

pub advance-requires : goal.advance-requires
advance-requires g c =
    let netlist = c.args.circuit.now in (
      input_labels netlist c.args.seed.now,
      [],
      seed-begun netlist c.law_lawful.ensures c.args.seed.now _ c.in_ok-labels.ensures _,
    )

pub returns-clause-so_far : goal.returns-clause-so_far
returns-clause-so_far g c =
    let none : c.advance.result ≡ 0 = omega (arith, c.advance.ensures.count) in
    rw none at (c.advance.ensures.piece _ _
    (seed-begun c.args.circuit.now c.law_lawful.ensures c.args.seed.now _ c.in_ok-labels.ensures _))
