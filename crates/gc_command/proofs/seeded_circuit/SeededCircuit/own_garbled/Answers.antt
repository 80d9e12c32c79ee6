use Rattle.gc_command.proofs.Names.{file_not_fault}
use Rattle.gc_command.proofs.AnswerLemmas.{IfErr-exit}
use Rattle.gc_file.specs.FileFault.{FirstGarbledFault}
use Rattle.gc_command.proofs.OwnFilesLemmas.{file-memory, own-garbled, own-parts}
use Rattle.gc_command.proofs.seeded_circuit.SeededCircuit.own_garbled.Goals as goal

pub returns-in_err-read_garbled-clause-fault : goal.returns-in_err-read_garbled-clause-fault
returns-in_err-read_garbled-clause-fault g c =
    let file = own-garbled _ _ _ c.law_lawful.ensures c.in_ok-bytes.ensures.file in
    IfErr-exit c.from_residual-in_err-read_garbled.result _ _
    c.from_residual-in_err-read_garbled.ensures.1
    (file-memory (FirstGarbledFault c.in_ok-bytes.bytes.items) (λ e. file_not_fault _ _ e file) _
    (rw c.deref.ensures.value at c.in_err-read_garbled.ensures))

pub returns-clause-honest : goal.returns-clause-honest
returns-clause-honest g c =
    own-parts _ _ _ c.law_lawful.ensures c.in_ok-bytes.ensures.file _
    (rw c.deref.ensures.value at c.in_ok-read_garbled.ensures)
