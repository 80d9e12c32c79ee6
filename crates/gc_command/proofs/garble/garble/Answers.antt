use Rattle.gc_command.proofs.Names.{◌≡◌, ◌∙◌, string_bytes, AreFew, IfOk-weaker, IfErr-weaker, IfOk, of_calls, GivesFile, IsGarbled, JudgesWorkers, IsGarbleInput}
use Rattle.gc_command.proofs.AnswerLemmas.{found_where_known}
use Rattle.gc_command.proofs.WroteLemmas.{IfSome-both, garble-unwritten}
use Rattle.gc_command.proofs.garble.garble.Goals as goal

pub returns-clause-answers : goal.returns-clause-answers
returns-clause-answers g c =
    let made = c.in_ok-circuit.ensures.made in
    let seed = string_bytes c.args.order.now.seed in
    let text = c.as_slice-text.result.now in
    let held = g.F.Files.bytes c.args.files.now c.as_str.result.now in
    let given : GivesFile held text = rw c.as_slice-text.ensures.value c.in_ok-bytes.ensures.given in
    let read : IsGarbleInput text seed c.in_ok-circuit.circuit made.0 = search (made.1, of_calls) in
    let judged : JudgesWorkers c.args.order.now.workers c.in_ok-circuit.made =
    search (made.2, of_calls) in
    let passed : IfOk c.in_ok-circuit.made (λ m. m.1 ≡ made.0) = search (made.2, of_calls) in
    let is : IfOk c.in_ok-circuit.made (λ m. IsGarbled c.in_ok-circuit.circuit made.0 m.0) =
    search (made.2, of_calls) in
    let same = rw c.in_ok-garbling.was at passed in
    let input : IsGarbleInput text seed c.in_ok-circuit.circuit c.in_ok-garbling.seed =
    rw same read in
    let few : AreFew c.args.order.now.workers = rw c.in_ok-garbling.was at judged in
    let garbled : IsGarbled c.in_ok-circuit.circuit c.in_ok-garbling.seed c.in_ok-garbling.garbling =
    rw same (rw c.in_ok-garbling.was at is) in
    rw (← c.as_str.ensures.value)
    (IfOk-weaker c.write_garbling.result _ _
    (λ lines written. IfSome-both held _ _ _ (λ bytes holds wrote. record {
      circuit = c.in_ok-circuit.circuit;
      seed = c.in_ok-garbling.seed;
      input = holds;
      few = few;
      garbling = c.in_ok-garbling.garbling;
      garbled = garbled;
      written = rw c.offset.ensures at wrote;
    })
    (found_where_known
    (λ bytes. IsGarbleInput bytes seed c.in_ok-circuit.circuit c.in_ok-garbling.seed) held text given
    input) (rw (c.read.ensures.same c.as_str.result.now) at (written c.as_str.result.now)))
    c.write_garbling.ensures.written)

pub returns-clause-fault : goal.returns-clause-fault
returns-clause-fault g c =
    let made = c.in_ok-circuit.ensures.made in
    let seed = string_bytes c.args.order.now.seed in
    let text = c.as_slice-text.result.now in
    let held = g.F.Files.bytes c.args.files.now c.as_str.result.now in
    let given : GivesFile held text = rw c.as_slice-text.ensures.value c.in_ok-bytes.ensures.given in
    let read : IsGarbleInput text seed c.in_ok-circuit.circuit made.0 = search (made.1, of_calls) in
    let judged : JudgesWorkers c.args.order.now.workers c.in_ok-circuit.made =
    search (made.2, of_calls) in
    let few : AreFew c.args.order.now.workers = rw c.in_ok-garbling.was at judged in
    rw (← c.as_str.ensures.value)
    (IfErr-weaker c.write_garbling.result _ _
    (λ fault unwritten. found_where_known _ held text given
    (garble-unwritten text seed _ c.in_ok-circuit.circuit made.0 read few fault unwritten))
    c.write_garbling.ensures.fault)

pub returns-clause-unwritten : goal.returns-clause-unwritten
returns-clause-unwritten g c = IfErr-weaker c.write_garbling.result _ _
    (λ fault same n. same n ∙ c.read.ensures.same n) c.write_garbling.ensures.unwritten
