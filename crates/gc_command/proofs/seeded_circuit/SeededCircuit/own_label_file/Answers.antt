use Rattle.gc_command.proofs.Names.{arith, common_steps}
use Rattle.gc_command.proofs.AnswerLemmas.{IfErr-exit}
use Rattle.gc_file.proofs.LabelFileLemmas.{not_both, one_label_file}
use Rattle.gc_command.proofs.OwnFilesLemmas.{file-memory, own-label-file}
use Rattle.gc_command.proofs.seeded_circuit.SeededCircuit.own_label_file.Goals as goal

pub returns-in_err-read_labels-clause-fault : goal.returns-in_err-read_labels-clause-fault
returns-in_err-read_labels-clause-fault g c =
    let file = own-label-file c.args.self.now.circuit.now c.args.self.now.seed.now c.args.index
    c.args.bits.now c.bytes.result.now c.law_lawful.ensures c.ranges.index.fits c.requires
    (grind (arith, common_steps)) in
    IfErr-exit c.from_residual-in_err-read_labels.result _ _
    c.from_residual-in_err-read_labels.ensures.1
    (file-memory _ (λ e. not_both _ _ e file) _ c.in_err-read_labels.ensures)

pub returns-clause-parts : goal.returns-clause-parts
returns-clause-parts g c =
    one_label_file _ _ _ c.in_ok-read_labels.ensures
    (own-label-file c.args.self.now.circuit.now c.args.self.now.seed.now c.args.index c.args.bits.now
    c.bytes.result.now c.law_lawful.ensures c.ranges.index.fits c.requires
    (grind (arith, common_steps)))
