use Rattle.std.proofs.Common.{◌≡◌, [], arith}
use Rattle.gc_half.proofs.StreamingLemmas.{garbler-begun}
use Rattle.gc_half.proofs.streaming_garbler.StreamingGarbler.begin.Goals as goal

pub advance-requires : goal.advance-requires
advance-requires g c =
    let given = c.args.start.zero_labels.now in (
      given,
      [],
      garbler-begun c.args.circuit.now c.law_lawful.ensures given _ c.requires.inputs
          (rw c.wires.ensures.count at c.in_ok-labels.ensures) _ _ c.requires.numbers,
    )

pub returns-clause-so_far : goal.returns-clause-so_far
returns-clause-so_far g c =
    let given = c.args.start.zero_labels.now in
    let none : c.advance.result ≡ 0 = omega (arith, c.advance.ensures.count) in
    rw none at (c.advance.ensures.piece given []
    (garbler-begun c.args.circuit.now c.law_lawful.ensures given _ c.requires.inputs
    (rw c.wires.ensures.count at c.in_ok-labels.ensures) _ _ c.requires.numbers))
