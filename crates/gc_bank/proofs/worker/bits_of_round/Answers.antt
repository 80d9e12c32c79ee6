use Rattle.gc_bank.proofs.Names.{Some, Ok, active, jobs_on}
use Rattle.gc_job.proofs.OutputLemmas.{length-outputs}
use Rattle.gc_steps.proofs.LabelLemmas.{evaluated_outputs}
use Rattle.gc_job.proofs.JobsLemmas.{bits_at}
use Rattle.gc_bank.proofs.worker.bits_of_round.Goals as goal

pub decode-requires : goal.decode-requires
decode-requires g c =
    let job = c.job-job.result.now in
    length-outputs job.circuit c.law_whole.ensures.lawful (active job) _
    (c.requires.labels job c.job-job.ensures.at)

pub returns-in-Ok : goal.returns-in-Ok
returns-in-Ok g c =
    let job = c.job-job.result.now in
    let at = c.job-job.ensures.at in
    bits_at (jobs_on c.args.banks.now) c.args.round job (Some c.in-Ok.bits) at
    (evaluated_outputs job _ (Ok _) c.law_whole.ensures (c.requires.labels job at)
    c.in-Ok.ensures)
