use Rattle.gc_command.proofs.Names.{rules, ◌∙◌, sym, ap, fun_ext, ◌≡◌, IfOk, MatchOption, subst, map, string_bytes, AreEvalFiles, AreCountsRight, IsPartsAudit, garbling_of}
use Rattle.gc_command.specs.SeedText.{IsSeed}
use Rattle.gc_command.proofs.AnswerLemmas.{IfErr-exit}
use Rattle.gc_command.proofs.audit.audit.Goals as goal

pub returns-in_err-circuit-clause-fault : goal.returns-in_err-circuit-clause-fault
returns-in_err-circuit-clause-fault g c =
    let step = c.in_err-circuit.ensures.fault in
    let s = step.met.0.said-raw.1.1.1.1 in
    let now = c.files-1.given.1 (search (step.met.1, rules)) ∙ s.1.1 in
    let is = rw (← s.1.0, ← now, fun_ext c.read.ensures.same, c.in_ok-bytes.ensures.counted)
    at s.0.ensures.1.1.0 in
    IfErr-exit c.from_residual-in_err-circuit.result _ _
    c.from_residual-in_err-circuit.ensures.1 is.has

pub returns-in_err-compared-clause-fault : goal.returns-in_err-compared-clause-fault
returns-in_err-compared-clause-fault g c =
    let step = c.in_ok-circuit.ensures.made in
    let s = step.1.met.0.said-raw.1.1.1.1 in
    let w = step.2.1.said-raw.1.1 in
    let read = rw (← s.1.0, fun_ext c.read.ensures.same) at s.0.ensures.1.0 in
    let seed = rw (← s.1.0) at s.0.ensures.0 in
    let memory = rw (sym w.1 ∙ c.in_err-compared.was) at w.0.ensures.1.1.1.1.1.1 in
    IfErr-exit c.from_residual-in_err-compared.result _ _ c.from_residual-in_err-compared.ensures.1
    (_, (_, (_, (read, seed.accepted, memory))))

pub returns-clause-answers : goal.returns-clause-answers
returns-clause-answers g c =
    let order = c.args.order.now in
    let step = c.in_ok-circuit.ensures.made in
    let s = step.1.met.0.said-raw.1.1.1.1 in
    let w = step.2.1.said-raw.1.1 in
    let files : AreEvalFiles (g.F.Files.bytes c.read.new.self) (string_bytes order.circuit)
    (string_bytes order.garbled) (map string_bytes order.labels.items) c.in_ok-circuit.circuit
    step.0.1.0 step.0.1.1.items = subst (λ r. IfOk r (λ made. AreEvalFiles (g.F.Files.bytes c.read.new.self) (string_bytes order.circuit)
    (string_bytes order.garbled) (map string_bytes order.labels.items) made.0 made.1.1.0 made.1.1.1.items)) (sym s.1.0) s.0.ensures.1.0 in
    let seed : IsSeed (string_bytes order.seed) step.0.0 = subst (λ r. IfOk r (λ made. IsSeed (string_bytes order.seed) made.1.0)) (sym s.1.0) s.0.ensures.0 in
    let made = c.in_ok-compared.compared in
    let file = step.0.1.0 in
    let o = sym w.1 ∙ c.in_ok-compared.was in
    let same : made.seed ≡ step.0.0 = subst (λ r. IfOk r (λ made. made.seed ≡ step.0.0)) o w.0.ensures.0 in
    let of_version : made.version ≡ file.version = subst (λ r. IfOk r (λ made. made.version ≡ file.version)) o w.0.ensures.1.0 in
    let names : made.named ≡ file.digest = subst (λ r. IfOk r (λ made. made.named ≡ file.digest)) o w.0.ensures.1.1.0 in
    let ours : made.labels.items ≡ step.0.1.1.items = subst (λ r. IfOk r (λ made. made.labels.items ≡ step.0.1.1.items)) o w.0.ensures.1.1.1.0 in
    let parts : MatchOption made.parts (¬ AreCountsRight step.2.0.now file)
    (IsPartsAudit step.2.0.now (garbling_of step.2.0.now step.0.0) step.0.0 file) = subst (λ r. IfOk r (λ made. MatchOption made.parts (¬ AreCountsRight step.2.0.now file)
    (IsPartsAudit step.2.0.now (garbling_of step.2.0.now step.0.0) step.0.0 file))) o w.0.ensures.1.1.1.1.1.0 in
    record {
      c = c.in_ok-circuit.circuit;
      g = file;
      files = step.0.1.1.items;
      input = rw (fun_ext c.read.ensures.same) at files;
      seed = step.0.0;
      seed_read = seed;
      printed = rw (ours, same) at (c.in_ok-audit_lines.ensures file (sym of_version)
          (record {
            digest = rw (names, c.in_ok-circuit.ensures.digest)
                at c.garbled_audit-found.ensures.digest;
            parts = rw (same, c.garbled_audit-found.ensures.parts, ← step.2.2) parts;
          }));
    }

pub returns-in_err-compared-clause-same : goal.returns-in_err-compared-clause-same
returns-in_err-compared-clause-same g c = λ n.
    let step = c.in_ok-circuit.ensures.made.1 in
    let s = step.met.0.said-raw.1.1.1.1 in
    let now = c.files-1.given.1 (search (step.met.1, rules)) ∙ s.1.1 in
    ap (λ f. g.F.Files.bytes f n) now ∙ s.0.ensures.1.1.1 n ∙ c.read.ensures.same n

pub returns-in_err-audit_lines-clause-same : goal.returns-in_err-audit_lines-clause-same
returns-in_err-audit_lines-clause-same g c = λ n.
    let step = c.in_ok-circuit.ensures.made.1 in
    let s = step.met.0.said-raw.1.1.1.1 in
    let now = c.files-1.given.1 (search (step.met.1, rules)) ∙ s.1.1 in
    ap (λ f. g.F.Files.bytes f n) now ∙ s.0.ensures.1.1.1 n ∙ c.read.ensures.same n

pub returns-clause-same : goal.returns-clause-same
returns-clause-same g c = λ n.
    let step = c.in_ok-circuit.ensures.made.1 in
    let s = step.met.0.said-raw.1.1.1.1 in
    let now = c.files-1.given.1 (search (step.met.1, rules)) ∙ s.1.1 in
    ap (λ f. g.F.Files.bytes f n) now ∙ s.0.ensures.1.1.1 n ∙ c.read.ensures.same n
