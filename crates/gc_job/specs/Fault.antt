-- The numbers of the faults of binding a job and of evaluating it.
use Rattle.std.specs.Prelude.{ℕ}
use Rattle.gc_job.specs.declared.fault.BindFault.{BindFault}
use Rattle.gc_job.specs.declared.fault.BindFault.TheVariants.{OtherCircuit, OtherCounts, NoSuchValue, WrongWidth, DoubleValue, MissingValue, Memory}
use Rattle.gc_job.specs.declared.fault.EvalFault.{EvalFault}
use Rattle.gc_job.specs.declared.fault.EvalFault.TheVariants.{BadWorkers, UnknownOutputLabel, Memory as EvalMemory}

abbrev pub bind_code_of : BindFault → ℕ
bind_code_of OtherCircuit = 40
bind_code_of OtherCounts = 41
bind_code_of NoSuchValue = 42
bind_code_of WrongWidth = 43
bind_code_of DoubleValue = 44
bind_code_of MissingValue = 45
bind_code_of Memory = 46

abbrev pub eval_code_of : EvalFault → ℕ
eval_code_of BadWorkers = 22
eval_code_of (UnknownOutputLabel output) = 48
eval_code_of EvalMemory = 46
