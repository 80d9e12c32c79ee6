use Rattle.std.proofs.lemmas.Option.{slice_get-get_or}
use Rattle.gc_bank.proofs.RoundLemmas.{is_round}
use Rattle.gc_bank.proofs.seat.Banks.job.Goals as goal

pub returns-clause-round : goal.returns-clause-round
returns-clause-round g c =
    let jobs = c.args.self.now.jobs.now in
    rw c.args.self.now.about (is_round jobs _ c.args.round _ c.args.self.now.circuit
    (slice_get-get_or jobs c.args.round c.index-self-round.result c.requires))

pub returns-clause-circuit : goal.returns-clause-circuit
returns-clause-circuit g c =
    c.args.self.now.circuit c.args.round _
    (slice_get-get_or c.args.self.now.jobs.now c.args.round c.index-self-round.result c.requires)
