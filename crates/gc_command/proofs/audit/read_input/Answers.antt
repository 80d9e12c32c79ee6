use Rattle.gc_command.proofs.Names.{rules, ℕ, List, inr, refl, Netlist, FileBytes, Fault, IsCircuit, HasFilesFault, GivesFile, IsSeedText, IsAuditFault}
use Rattle.gc_command.specs.declared.fault.Fault.TheVariants as faults
use Rattle.gc_command.proofs.AnswerLemmas.{IfErr-exit, found_where_known}
use Rattle.gc_command.proofs.EvalLemmas.{files-kind}
use Rattle.gc_command.proofs.audit.read_input.Goals as goal

-- A fault of the garbled file and the label files is one of `audit`.
files-fault : {bytes : FileBytes} {Failed : List ℕ → Type 0} {circuit seed garbled text : List ℕ}
    {labels : List (List ℕ)} {c : Netlist} → GivesFile (bytes circuit) text → IsCircuit text c
    → IsSeedText seed → (fault : Fault) → HasFilesFault bytes Failed garbled labels fault
    → IsAuditFault bytes Failed circuit seed garbled labels fault
files-fault given read accepted (faults.File fault) is =
    record { has = (_, found_where_known _ _ _ given read, accepted, is) }
files-fault given read accepted faults.CannotRead is =
    record { has = inr (_, found_where_known _ _ _ given read, accepted, is) }
files-fault given read accepted faults.Memory is = record { has = tt }
files-fault {bytes = bytes} {Failed = Failed} {garbled = garbled} {labels = labels} given read accepted fault is =
    absurd (files-kind bytes Failed garbled labels fault is)

pub returns-in_err-given-clause-fault : goal.returns-in_err-given-clause-fault
returns-in_err-given-clause-fault g c =
    let read : IsCircuit c.args.text.now c.in_ok-circuit.circuit = search rules in
    rw (← c.as_str.ensures.value, ← c.as_str-2.ensures.value, ← c.deref.ensures.value)
    (IfErr-exit c.from_residual-in_err-given.result _ _ c.from_residual-in_err-given.ensures.1
    (files-fault c.requires read (c.in_ok-seed.ensures.accepts.0 refl) _ c.in_err-given.ensures.fault))

pub returns-clause-seed : goal.returns-clause-seed
returns-clause-seed g c =
    rw (← c.as_str.ensures.value) (record {
      accepted = c.in_ok-seed.ensures.accepts.0 refl;
      spelled = c.in_ok-seed.ensures.bytes;
    })

pub returns-clause-read : goal.returns-clause-read
returns-clause-read g c =
    let read : IsCircuit c.args.text.now c.in_ok-circuit.circuit = search rules in
    rw (← c.as_str-2.ensures.value, ← c.deref.ensures.value) (record {
      circuit_read = found_where_known _ _ _ c.requires read;
      given = c.in_ok-given.ensures.given;
    })
