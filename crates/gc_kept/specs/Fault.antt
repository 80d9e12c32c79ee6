-- The numbers of faults.
use Rattle.std.specs.Prelude.{ℕ}
use Rattle.gc_netlist.specs.Fault as read
use Rattle.gc_file.specs.Fault as held
use Rattle.gc_job.specs.Fault.{bind_code_of, eval_code_of}
use Rattle.gc_kept.specs.declared.fault.KeptFault.{KeptFault}
use Rattle.gc_kept.specs.declared.fault.KeptFault.TheVariants.{Circuit, BadDigit, WrongLength, Garbling, File, Binding, Evaluation, BadArgument, SmallBuffer, NeedsRoom, Memory, WrongLabel, WrongSize, Unfinished, NoDigest}

abbrev pub code_of : KeptFault → ℕ
code_of (Circuit fault) = read.code_of fault
code_of BadDigit = 15
code_of WrongLength = 16
code_of Garbling = 23
code_of (File fault) = held.code_of fault
code_of (Binding fault) = bind_code_of fault
code_of (Evaluation fault) = eval_code_of fault
code_of BadArgument = 60
code_of SmallBuffer = 61
code_of (NeedsRoom size) = 61
code_of Memory = 62
code_of WrongLabel = 63
code_of WrongSize = 66
code_of Unfinished = 67
code_of NoDigest = 68
