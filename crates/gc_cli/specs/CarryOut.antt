-- What a command returns and writes, and which fault it has, where the files' bytes are known.
use Rattle.std.specs.Prelude.{◌≡◌, ℕ, Bool, true, List, IfSome}
use Rattle.gc_disk.specs.Files.{FileBytes}
use Rattle.gc_command.specs.declared.fault.Fault.{Fault}
use Rattle.gc_order.specs.Order.{OrderText, run, plain, check, locate, stats, by_depth, garble, deal, eval, jobs, list_labels, audit}
use Rattle.gc_command.specs.Fault.{HasCause}
use Rattle.gc_command.specs.Lines.{form_by_flag}
use Rattle.gc_command.specs.Run.{AnswersRun, HasRunFault}
use Rattle.gc_command.specs.Plain.{AnswersPlain, HasPlainFault}
use Rattle.gc_command.specs.Check.{AnswersCheck, HasCheckFault}
use Rattle.gc_command.specs.Order.{AnswersOrder, HasOrderFault}
use Rattle.gc_command.specs.Garble.{AnswersGarble, HasGarbleFault}
use Rattle.gc_command.specs.Deal.{AnswersDeal, HasDealFault}
use Rattle.gc_command.specs.Eval.{AnswersEval, HasEvalFault}
use Rattle.gc_command.specs.Locate.{AnswersLocate, HasLocateFault}
use Rattle.gc_command.specs.Stats.{AnswersStats, HasStatsFault}
use Rattle.gc_command.specs.Labels.{AnswersLabels, HasLabelsFault}
use Rattle.gc_command.specs.Audit.{AnswersAudit, HasAuditFault}
use Rattle.gc_command.specs.Jobs.{AnswersJobs, HasJobsFault}

-- The order, which is no audit, is done: the bytes for standard output are its result, and where it writes a file, that
-- is written. `old` and `new` are the bytes of the files before and after it.
abbrev pub AnswersLines : FileBytes → FileBytes → OrderText → List ℕ → Type 0
AnswersLines old new (run circuit seed workers hex values) out =
    IfSome (old circuit) (λ file. AnswersRun file seed workers (form_by_flag hex) values out)
AnswersLines old new (plain circuit hex values) out =
    IfSome (old circuit) (λ file. AnswersPlain file (form_by_flag hex) values out)
AnswersLines old new (check circuit) out = IfSome (old circuit) (λ file. AnswersCheck file out)
AnswersLines old new (by_depth circuit name) out =
    IfSome (old circuit) (λ file. AnswersOrder file (new name) out)
AnswersLines old new (garble circuit seed name version workers) out =
    IfSome (old circuit) (λ file. AnswersGarble file seed version workers (new name) out)
AnswersLines old new (deal circuit seed index value name) out =
    IfSome (old circuit) (λ file. AnswersDeal file seed index value (new name) out)
AnswersLines old new (eval circuit garbled workers hex labels) out =
    AnswersEval old circuit garbled workers (form_by_flag hex) labels out
AnswersLines old new (jobs circuit list workers hex) out =
    AnswersJobs old circuit list workers (form_by_flag hex) out
AnswersLines old new (locate circuit) out = IfSome (old circuit) (λ file. AnswersLocate file out)
AnswersLines old new (stats circuit) out = IfSome (old circuit) (λ file. AnswersStats file out)
AnswersLines old new (list_labels circuit seed from count values) out =
    IfSome (old circuit) (λ file. AnswersLabels file seed from count values out)
AnswersLines old new (audit circuit seed garbled labels) out = ⊥

-- The order is done. `honest` is whether an audit finds the files honest, and true of any other order.
abbrev pub AnswersCommand : FileBytes → FileBytes → OrderText → Bool → List ℕ → Type 0
AnswersCommand old new (audit circuit seed garbled labels) honest out =
    AnswersAudit old circuit seed garbled labels honest out
AnswersCommand old new order honest out = (honest ≡ true) × AnswersLines old new order out

-- The order has this fault. `Failed` says of a name that its file has failed: that a file can't be read, or written,
-- has such a cause, whether its bytes are known or not.
abbrev pub HasFault : FileBytes → (List ℕ → Type 0) → OrderText → Fault → Type 0
HasFault bytes Failed (run circuit seed workers hex values) fault =
    IfSome (bytes circuit) (λ file. HasRunFault file seed workers values fault)
    × HasCause fault (Failed circuit) ⊥
HasFault bytes Failed (plain circuit hex values) fault =
    IfSome (bytes circuit) (λ file. HasPlainFault file values fault)
    × HasCause fault (Failed circuit) ⊥
HasFault bytes Failed (check circuit) fault =
    IfSome (bytes circuit) (λ file. HasCheckFault file fault) × HasCause fault (Failed circuit) ⊥
HasFault bytes Failed (by_depth circuit name) fault =
    IfSome (bytes circuit) (λ file. HasOrderFault file fault)
    × HasCause fault (Failed circuit) (Failed name)
HasFault bytes Failed (garble circuit seed name version workers) fault =
    IfSome (bytes circuit) (λ file. HasGarbleFault file seed workers fault)
    × HasCause fault (Failed circuit) (Failed name)
HasFault bytes Failed (deal circuit seed index value name) fault =
    IfSome (bytes circuit) (λ file. HasDealFault file seed index value fault)
    × HasCause fault (Failed circuit) (Failed name)
HasFault bytes Failed (eval circuit garbled workers hex labels) fault =
    HasEvalFault bytes Failed circuit garbled workers labels fault
HasFault bytes Failed (jobs circuit list workers hex) fault =
    HasJobsFault bytes Failed circuit list workers fault
HasFault bytes Failed (locate circuit) fault =
    IfSome (bytes circuit) (λ file. HasLocateFault file fault) × HasCause fault (Failed circuit) ⊥
HasFault bytes Failed (stats circuit) fault =
    IfSome (bytes circuit) (λ file. HasStatsFault file fault) × HasCause fault (Failed circuit) ⊥
HasFault bytes Failed (list_labels circuit seed from count values) fault =
    IfSome (bytes circuit) (λ file. HasLabelsFault file seed values fault)
    × HasCause fault (Failed circuit) ⊥
HasFault bytes Failed (audit circuit seed garbled labels) fault =
    HasAuditFault bytes Failed circuit seed garbled labels fault

-- The order writes the file of this name.
abbrev pub Writes : OrderText → List ℕ → Type 0
Writes (by_depth circuit out) name = name ≡ out
Writes (garble circuit seed out version workers) name = name ≡ out
Writes (deal circuit seed index value out) name = name ≡ out
Writes order name = ⊥
