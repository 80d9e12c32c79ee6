use Rattle.gc_bank.proofs.Names.{◌+◌, ◌-◌, length, arith}
use Rattle.gc_bank.proofs.JobLemmas.{part_one, known_from_part}
use Rattle.gc_bank.proofs.apart.evaluate_share.Goals as goal

pub evaluate_group-requires-clause-one : goal.evaluate_group-requires-clause-one
evaluate_group-requires-clause-one g c = λ k a b from below a_at b_at.
    part_one c.args.jobs.now c.args.start (c.args.start + length c.args.share.now - c.args.start)
    c.requires.one k _ b a b_at a_at

pub returns-clause-known : goal.returns-clause-known
returns-clause-known g c =
    known_from_part c.args.jobs.now c.args.start
    (c.args.start + length c.args.share.now - c.args.start) _
    (omega (arith, c.loop-group.invariant.1)) c.loop-group.invariant.0
