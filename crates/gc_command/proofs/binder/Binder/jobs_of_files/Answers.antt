use Rattle.gc_command.proofs.Names.{◌≡◌, [], ◌∷◌, inl, inr, length, suc, ◌∙◌, sym, ap, arith, append_assoc, append-nil, length-append, nil_from_length}
use Rattle.gc_command.proofs.AnswerLemmas.{IfErr-exit}
use Rattle.gc_command.proofs.LineLemmas.{next-left, no-job-fault, trailer-at}
use Rattle.gc_command.proofs.binder.Binder.jobs_of_files.Goals as goal

pub job_of_files-requires-clause-trailer : goal.job_of_files-requires-clause-trailer
job_of_files-requires-clause-trailer g c =
    let next = next-left c.args.read.items _ c.in-Some.files _
    (c.loop-files.invariant.left ∙ c.in-Some.ensures.steps.0) in
    let count : c.len-in-loop-files.result ≡ length c.loop-files.jobs.items =
    omega (arith, c.len-in-loop-files.ensures) in
    rw count
    (trailer-at c.args.trailers.now c.args.read.items _ c.in-Some.files c.requires.trailers next.0
    next.1)

pub returns-in_err-job_of_files-clause-fault : goal.returns-in_err-job_of_files-clause-fault
returns-in_err-job_of_files-clause-fault g c =
    let left = c.loop-files.invariant.left ∙ c.in-Some.ensures.steps.0 in
    IfErr-exit c.from_residual-in_err-job_of_files.result _ _
    c.from_residual-in_err-job_of_files.ensures.1 (no-job-fault _ _ _
    (c.loop-files.invariant.faults _ (rw left (inl c.in_err-job_of_files.ensures.fault))))

pub loop-files-preserved : goal.loop-files-preserved
loop-files-preserved g c =
    let job = c.in_ok-job_of_files.field-0 in
    let left = c.loop-files.invariant.left ∙ c.in-Some.ensures.steps.0 in
    let next = next-left c.args.read.items _ c.in-Some.files _ left in
    let count : length c.push.new.self.items ≡ suc (length c.loop-files.jobs.items) =
    omega (
      arith,
      ap length c.in_ok-push.ensures.items,
      length-append c.loop-files.jobs.items (job ∷ []),
    ) in
    let made = c.in_ok-job_of_files.ensures.made in
    record {
      can_next = tt;
      is_finite = tt;
      left = rw count (sym next.2);
      count = omega (
        arith,
        c.loop-files.invariant.count,
        ap length c.in-Some.ensures.steps.0,
        c.in-Some.ensures.steps.1,
      );
      made = λ later rest.
          rw (c.in_ok-push.ensures.items, append_assoc c.loop-files.jobs.items (job ∷ []) later)
          (c.loop-files.invariant.made (job ∷ later)
          (rw left (made, rw (count, ← next.2) at rest)));
      faults = λ fault rest.
          c.loop-files.invariant.faults fault
          (rw left (inr (job, made, rw (count, ← next.2) at rest)));
    }

pub returns-clause-made : goal.returns-clause-made
returns-clause-made g c =
    let none = c.loop-files.invariant.left
    ∙ nil_from_length _ (sym c.loop-files.invariant.count ∙ c.in-None.ensures.steps.0) in
    rw append-nil at (c.loop-files.invariant.made [] (rw none tt))
