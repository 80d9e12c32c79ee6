use Rattle.gc_command.proofs.Names.{of_calls, MatchResult, IsEvalFault, ◌≡◌, map, string_bytes, sym, ap₂, ◌∙◌, fun_ext, AreFew, DecodeTo, HasJobFault, IsLawful, HasFailed, AreEvalFiles, ap, output_lines}
use Rattle.gc_job.proofs.BindLemmas.{other_digest, same_digest}
use Rattle.gc_job.specs.Binding.{other_circuit}
use Rattle.gc_command.proofs.AnswerLemmas.{IfErr-exit, length-decoded}
use Rattle.gc_command.proofs.EvalLemmas.{job-fault}
use Rattle.gc_command.proofs.eval.eval.Given.{Over}
use Rattle.gc_command.proofs.eval.eval.Goals.{Else-ne}
use Rattle.gc_command.proofs.eval.eval.Goals as goal

-- The files that were read,
input : (g : Over) (c : Else-ne g) →
    let order = c.args.order.now in let given = c.in_ok-circuit.ensures.made.0 in
    AreEvalFiles (g.F.Files.bytes c.args.files.now) (string_bytes order.circuit)
    (string_bytes order.garbled) (map string_bytes order.labels.items) c.in_ok-circuit.circuit given.0
    given.1.items
input g c =
    rw (← fun_ext c.read.ensures.same) (search (c.in_ok-circuit.ensures.made.1, of_calls))

-- and what their evaluation returned, where they are of the circuit.
outcome : (g : Over) (c : Else-ne g) →
    let workers = c.args.order.now.workers in let given = c.in_ok-circuit.ensures.made.0 in
    MatchResult c.in_ok-circuit.outputs (λ bits. AreFew workers
    × DecodeTo c.in_ok-circuit.circuit given.0 given.1.items bits.items)
    (HasJobFault c.in_ok-circuit.circuit given.0 given.1.items workers)
outcome g c =
    let made = c.in_ok-circuit.ensures.made in
    let named : c.in_ok-circuit.named ≡ made.0.0.digest = search (made.2, of_calls) in
    let call = made.2.1.said-raw.1.1 in
    let same = same_digest _ _ _ c.ne.ensures c.if-ne.false in
    (rw (made.2.2, ← ap (λ r. r.1) call.1) at call.0.ensures.1)
    (sym named ∙ sym same ∙ c.in_ok-circuit.ensures.digest)

pub returns-in_err-circuit-clause-fault : goal.returns-in_err-circuit-clause-fault
returns-in_err-circuit-clause-fault g c =
    let fault : IsEvalFault (g.F.Files.bytes c.read.new.self)
    (HasFailed (g.F.Files.failures c.read.new.self) (g.F.Files.failures c.files-1.given.0))
    (string_bytes c.args.order.now.circuit) (string_bytes c.args.order.now.garbled)
    c.args.order.now.workers (map string_bytes c.args.order.now.labels.items)
    c.in_err-circuit.field-0.0 = search (c.in_err-circuit.ensures.fault, of_calls) in
    IfErr-exit c.from_residual-in_err-circuit.result _ _ c.from_residual-in_err-circuit.ensures.1
    (rw (fun_ext c.read.ensures.same, c.in_ok-bytes.ensures.counted) at fault.has)

pub returns-then-ne-clause-fault : goal.returns-then-ne-clause-fault
returns-then-ne-clause-fault g c =
    let made = c.in_ok-circuit.ensures.made in
    let named : c.in_ok-circuit.named ≡ made.0.0.digest = search (made.2, of_calls) in (
      c.in_ok-circuit.circuit,
      (
        made.0.0,
        (
          made.0.1.items,
          (
            rw (← fun_ext c.read.ensures.same) (search (made.1, of_calls)),
            λ _. other_circuit (λ right. other_digest _ _ _ c.ne.ensures c.if-ne.true
                (c.in_ok-circuit.ensures.digest ∙ sym (named ∙ right))),
          ),
        ),
      ),
    )

pub returns-in_err-outputs-clause-fault : goal.returns-in_err-outputs-clause-fault
returns-in_err-outputs-clause-fault g c =
    let at = goal.at.returns-in_err-outputs-clause-fault g c in
    IfErr-exit c.from_residual-in_err-outputs.result _ _ c.from_residual-in_err-outputs.ensures.1
    (job-fault _ c.args.order.now.workers (input g at.Else-ne) _
    (rw c.in_err-outputs.was at (outcome g at.Else-ne)))

pub output_lines-requires : goal.output_lines-requires
output_lines-requires g c =
    let lawful : IsLawful c.in_ok-circuit.circuit =
    search (c.in_ok-circuit.ensures.made.1, of_calls) in
    let outputs =
    rw c.in_ok-outputs.was at (outcome g (goal.at.output_lines-requires g c).Else-ne) in
    rw (c.output_widths.ensures, c.deref.ensures.value)
    (length-decoded _ lawful _ _ c.in_ok-outputs.outputs.items outputs.1)

pub returns-clause-answers : goal.returns-clause-answers
returns-clause-answers g c =
    let at = goal.at.returns-clause-answers g c in
    let outputs = rw c.in_ok-outputs.was at (outcome g at.Else-ne) in
    rw (← c.by_flag-form.ensures) (record {
      c = c.in_ok-circuit.circuit;
      g = c.in_ok-circuit.ensures.made.0.0;
      files = c.in_ok-circuit.ensures.made.0.1.items;
      input = input g at.Else-ne;
      few = outputs.0;
      outputs = c.in_ok-outputs.outputs.items;
      decoded = outputs.1;
      printed = c.in_ok-output_lines.ensures
          ∙ ap₂ (output_lines c.by_flag-form.result) c.output_widths.ensures c.deref.ensures.value;
    })
