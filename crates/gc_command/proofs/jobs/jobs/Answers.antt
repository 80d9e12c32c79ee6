use Rattle.gc_command.proofs.Names.{map, length, option_map, ap, ap₂, ◌∙◌, sym, subst, arith, fun_ext, slice_get-get_or, slice_get-map, AreOnOneCircuit, HasFailed, Err, jobs_lines}
use Rattle.gc_bank.specs.Jobs.{AreEvaluatedBy}
use Rattle.gc_command.proofs.AnswerLemmas.{IfErr-exit}
use Rattle.gc_command.proofs.JobsLemmas.{jobs-circuit-fault, jobs-list-fault, length-listed, named_count, named_on_one}
use Rattle.gc_command.proofs.jobs.jobs.Goals as goal

pub returns-in_err-circuit-clause-fault : goal.returns-in_err-circuit-clause-fault
returns-in_err-circuit-clause-fault g c =
    rw (← c.as_str-name.ensures.value, ← c.as_str-list.ensures.value)
    (IfErr-exit c.from_residual.result _ _ c.from_residual.ensures.1
    (jobs-circuit-fault (g.F.Files.bytes c.args.files.now)
    (HasFailed (g.F.Files.failures c.args.files.now)
    (g.F.Files.failures c.read_circuit_and_digest.new.files))
    c.as_str-name.result.now c.as_str-list.result.now c.args.order.now.workers _
    c.in_err-circuit.ensures.fault))

pub returns-in_err-jobs-clause-fault : goal.returns-in_err-jobs-clause-fault
returns-in_err-jobs-clause-fault g c =
    rw (← c.as_str-name.ensures.value, ← c.as_str-list.ensures.value)
    (let same = fun_ext c.read_circuit_and_digest.ensures.same in
    IfErr-exit c.from_residual-in_err-jobs.result _ _ c.from_residual-in_err-jobs.ensures.1
    (jobs-list-fault (g.F.Files.bytes c.args.files.now)
    (HasFailed (g.F.Files.failures c.args.files.now) (g.F.Files.failures c.read_listed_jobs.new.files))
    c.as_str-name.result.now c.as_str-list.result.now c.args.order.now.workers _
    c.in_ok-circuit.ensures.circuit _
    (rw (same, c.in_ok-circuit.ensures.counted) at c.in_err-jobs.ensures.fault)))

pub evaluate_listed-requires-clause-count : goal.evaluate_listed-requires-clause-count
evaluate_listed-requires-clause-count g c =
    let are = c.in_ok-jobs.ensures.listed in
    omega (arith, are.is_list.count, named_count _ _ _ _ are.named, ap length c.deref.ensures.value)

pub evaluate_listed-requires-clause-one : goal.evaluate_listed-requires-clause-one
evaluate_listed-requires-clause-one g c = λ κs outlives i k a b.
    subst AreOnOneCircuit (sym c.deref.ensures.value)
    (named_on_one _ _ _ _ c.in_ok-jobs.ensures.listed.named) i k a b

pub returns-in_err-outputs-clause-fault : goal.returns-in_err-outputs-clause-fault
returns-in_err-outputs-clause-fault g c =
    rw (← c.as_str-name.ensures.value, ← c.as_str-list.ensures.value)
    (let same = fun_ext c.read_circuit_and_digest.ensures.same in
    let listed = rw same at c.in_ok-jobs.ensures.listed in
    let fault = c.in_err-outputs.ensures.fault in
    IfErr-exit c.from_residual-in_err-outputs.result _ _ c.from_residual-in_err-outputs.ensures.1 (
      c.in_ok-circuit.circuit,
      c.in_ok-circuit.ensures.circuit,
      (
        c.in_ok-jobs.jobs.items,
        listed,
        omega (arith, fault.0, ap length c.deref.ensures.value),
        subst (λ l. AreEvaluatedBy c.args.order.now.workers l (Err c.in_err-outputs.field-0.0))
            c.deref.ensures.value fault.1,
      ),
    ))

pub jobs_lines-requires : goal.jobs_lines-requires
jobs_lines-requires g c = λ k d within.
    let evaluated = rw (c.deref.ensures.value, ← c.deref-2.ensures.value)
    at c.in_ok-outputs.ensures.evaluated in
    rw c.output_widths.ensures
    (length-listed _ _ _ _ c.in_ok-jobs.ensures.listed.named c.in_ok-circuit.ensures.lawful _
    evaluated k _
    (slice_get-map (λ bits. bits.items) c.deref-2.result.now k
    ∙ ap (option_map (λ bits. bits.items)) (slice_get-get_or c.deref-2.result.now k d within)))

pub returns-in_err-jobs_lines-clause-same : goal.returns-in_err-jobs_lines-clause-same
returns-in_err-jobs_lines-clause-same g c = λ n.
    c.read_listed_jobs.ensures.same n ∙ c.read_circuit_and_digest.ensures.same n

pub returns-clause-answers : goal.returns-clause-answers
returns-clause-answers g c =
    rw (← c.as_str-name.ensures.value, ← c.as_str-list.ensures.value, ← c.by_flag-form.ensures)
    (record {
      c = c.in_ok-circuit.circuit;
      circuit_read = c.in_ok-circuit.ensures.circuit;
      jobs = c.in_ok-jobs.jobs.items;
      are_listed = rw (fun_ext c.read_circuit_and_digest.ensures.same)
          at c.in_ok-jobs.ensures.listed;
      few = rw c.deref.ensures.value at c.in_ok-outputs.ensures.few;
      outputs = map (λ bits. bits.items) c.in_ok-outputs.outputs.items;
      evaluated = rw c.deref.ensures.value at c.in_ok-outputs.ensures.evaluated;
      printed = c.in_ok-jobs_lines.ensures
          ∙ ap₂ (jobs_lines c.by_flag-form.result) c.output_widths.ensures
          (ap (map (λ bits. bits.items)) c.deref-2.ensures.value);
    })

pub returns-clause-same : goal.returns-clause-same
returns-clause-same g c = λ n.
    c.read_listed_jobs.ensures.same n ∙ c.read_circuit_and_digest.ensures.same n
