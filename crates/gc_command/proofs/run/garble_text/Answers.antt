use Rattle.gc_command.proofs.Names.{IfOk, of_calls, IsGarbled, JudgesWorkers, ◌≡◌, map, string_bytes, IsInput}
use Rattle.gc_command.proofs.AnswerLemmas.{IfErr-exit}
use Rattle.gc_command.proofs.run.garble_text.Goals as goal

pub returns-in_err-garbling-clause-fault : goal.returns-in_err-garbling-clause-fault
returns-in_err-garbling-clause-fault g c =
    let order = c.args.order.now in
    let made = c.in_ok-circuit.ensures.made in
    let read : IsInput c.args.text.now (string_bytes order.seed)
    (map string_bytes order.values.items) c.in_ok-circuit.circuit
    (map (λ value. value.items) made.0.1.items) = search (made.1, of_calls) in
    let judged : JudgesWorkers order.workers c.in_ok-circuit.made = search (made.2, of_calls) in
    IfErr-exit c.from_residual-in_err-garbling.result _ _ c.from_residual-in_err-garbling.ensures.1
    (record { first = ((_, (_, read)), rw c.in_err-garbling.was at judged); cause = tt })

pub returns-clause-input : goal.returns-clause-input
returns-clause-input g c =
    let order = c.args.order.now in
    let made = c.in_ok-circuit.ensures.made in
    let read : IsInput c.args.text.now (string_bytes order.seed)
    (map string_bytes order.values.items) c.in_ok-circuit.circuit
    (map (λ value. value.items) made.0.1.items) = search (made.1, of_calls) in
    let passed : IfOk c.in_ok-circuit.made (λ m. m.1 ≡ made.0) = search (made.2, of_calls) in
    rw (rw c.in_ok-garbling.was at passed) read

pub returns-clause-garbled : goal.returns-clause-garbled
returns-clause-garbled g c =
    let made = c.in_ok-circuit.ensures.made in
    let passed : IfOk c.in_ok-circuit.made (λ m. m.1 ≡ made.0) = search (made.2, of_calls) in
    let garbled : IfOk c.in_ok-circuit.made
    (λ m. IsGarbled c.in_ok-circuit.circuit made.0.0 m.0) = search (made.2, of_calls) in
    rw (rw c.in_ok-garbling.was at passed) (rw c.in_ok-garbling.was at garbled)

pub returns-clause-few : goal.returns-clause-few
returns-clause-few g c =
    let judged : JudgesWorkers c.args.order.now.workers c.in_ok-circuit.made =
    search (c.in_ok-circuit.ensures.made.2, of_calls) in
    rw c.in_ok-garbling.was at judged
