use Rattle.gc_command.proofs.AnswerLemmas.{IfErr-exit}
use Rattle.gc_command.proofs.JobsLemmas.{parted}
use Rattle.gc_command.proofs.LineLemmas.{reading-fault, binding-fault}
use Rattle.gc_command.specs.declared.fault.Fault.TheVariants.{Binding}
use Rattle.gc_command.proofs.binder.Binder.read_job.Goals as goal

pub returns-in_err-garbled-clause-fault : goal.returns-in_err-garbled-clause-fault
returns-in_err-garbled-clause-fault g c =
    let names = parted c.deref.ensures.value c.in-Some.ensures.cases.0 (λ word. word.now)
    c.in_ok-words.ensures in
    rw names (IfErr-exit c.from_residual-in_err-garbled.result _ _
    c.from_residual-in_err-garbled.ensures.1
    (reading-fault _ _ _ _ _ _ c.in_err-garbled.ensures.fault))

pub returns-in_err-bind_by_digest-clause-fault : goal.returns-in_err-bind_by_digest-clause-fault
returns-in_err-bind_by_digest-clause-fault g c =
    let names = parted c.deref.ensures.value c.in-Some.ensures.cases.0 (λ word. word.now)
    c.in_ok-words.ensures in
    rw names (IfErr-exit c.from_residual-in_err-bind_by_digest.result _ _
    c.from_residual-in_err-bind_by_digest.ensures.1
    (binding-fault (g.F.Files.bytes c.args.files.now) (λ name. ⊥) c.args.self.now.circuit.now _ _ _ _
    (Binding c.in_err-bind_by_digest.field-0.0) c.in_ok-garbled.ensures.given
    (rw c.deref-2.ensures.value at (c.in_err-bind_by_digest.ensures.err c.requires.digest))))

pub returns-clause-named : goal.returns-clause-named
returns-clause-named g c = record {
  g = c.in_ok-garbled.garbled;
  files = c.in_ok-garbled.labels.items;
  named = record {
    garbled = _;
    labels = _;
    names = parted c.deref.ensures.value c.in-Some.ensures.cases.0 (λ word. word.now)
        c.in_ok-words.ensures;
    given = c.in_ok-garbled.ensures.given;
  };
  bound = rw c.deref-2.ensures.value at (c.in_ok-bind_by_digest.ensures.ok c.requires.digest);
}
