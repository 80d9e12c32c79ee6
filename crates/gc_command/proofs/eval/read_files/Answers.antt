use Rattle.gc_command.proofs.Names.{rules, ℕ, List, inr, Netlist, FileBytes, Fault, IsCircuit, HasFilesFault, GivesFile, IsEvalFault}
use Rattle.gc_command.specs.declared.fault.Fault.TheVariants as faults
use Rattle.gc_command.proofs.AnswerLemmas.{IfErr-exit, found_where_known}
use Rattle.gc_command.proofs.EvalLemmas.{files-kind}
use Rattle.gc_command.proofs.eval.read_files.Goals as goal

-- A fault of the other files is one of `eval`.
files-fault : {bytes : FileBytes} {Failed : List ℕ → Type 0} {circuit garbled text : List ℕ}
    {workers : ℕ} {labels : List (List ℕ)} {c : Netlist} → GivesFile (bytes circuit) text
    → IsCircuit text c → (fault : Fault) → HasFilesFault bytes Failed garbled labels fault
    → IsEvalFault bytes Failed circuit garbled workers labels fault
files-fault given read (faults.File fault) is =
    record { has = (_, found_where_known _ _ _ given read, is) }
files-fault given read faults.CannotRead is =
    record { has = inr (_, found_where_known _ _ _ given read, is) }
files-fault given read faults.Memory is = record { has = tt }
files-fault {bytes = bytes} {Failed = Failed} {garbled = garbled} {labels = labels} given read fault is =
    absurd (files-kind bytes Failed garbled labels fault is)

pub returns-in_err-given-clause-fault : goal.returns-in_err-given-clause-fault
returns-in_err-given-clause-fault g c =
    IfErr-exit c.from_residual-in_err-given.result _ _
    c.from_residual-in_err-given.ensures.1 (files-fault c.requires
    (rw c.in_ok-circuit.was at c.read_side_by_side-read.ensures.circuit) _
    (rw c.in_err-given.was at c.read_side_by_side-read.ensures.not_given))

pub returns-then-are_regular-clause-read : goal.returns-then-are_regular-clause-read
returns-then-are_regular-clause-read g c = record {
  circuit_read = found_where_known _ _ _ c.requires
      (rw c.in_ok-circuit.was at c.read_side_by_side-read.ensures.circuit);
  given = rw c.in_ok-given.was at c.read_side_by_side-read.ensures.given;
}

pub returns-in_err-given-2-clause-fault : goal.returns-in_err-given-2-clause-fault
returns-in_err-given-2-clause-fault g c =
    let read : IsCircuit c.args.text.now c.in_ok-circuit-2.circuit = search rules in
    IfErr-exit c.from_residual-in_err-given-2.result _ _
    c.from_residual-in_err-given-2.ensures.1 (files-fault c.requires read _ c.in_err-given-2.ensures.fault)

pub returns-clause-read : goal.returns-clause-read
returns-clause-read g c =
    let read : IsCircuit c.args.text.now c.in_ok-circuit-2.circuit = search rules in
    record {
      circuit_read = found_where_known _ _ _ c.requires read;
      given = c.in_ok-given-2.ensures.given;
    }
