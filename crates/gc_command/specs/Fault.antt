-- The numbers and texts of faults.
use Rattle.std.specs.Prelude.{◌≡◌, ℕ, List, ◌∷◌, ◌++◌, codes}
use Rattle.std.specs.Fmt.{decimal}
use Rattle.gc_netlist.specs.Names.{fault_name}
use Rattle.gc_netlist.specs.Fault as read
use Rattle.gc_circuit.specs.Value as value
use Rattle.gc_file.specs.Fault as held
use Rattle.gc_file.specs.declared.take.TakeFault.{TakeFault}
use Rattle.gc_file.specs.declared.take.TakeFault.TheVariants as take
use Rattle.gc_work.specs.WorkFault as work
use Rattle.gc_job.specs.Fault.{bind_code_of, eval_code_of}
use Rattle.gc_disk.specs.declared.files.FileError.{FileError}
use Rattle.gc_disk.specs.declared.files.FileError.TheVariants as file
use Rattle.gc_disk.specs.Files.{FailedFiles, HasFailed}
use Rattle.gc_command.specs.declared.fault.Fault.{Fault}
use Rattle.gc_command.specs.declared.fault.Fault.TheVariants.{Circuit, WrongCount, Value, BadSeed, NoSuchValue, Garbling, File, Binding, Evaluation, BadList, CannotRead, CannotWrite, Memory}

abbrev pub code_of : Fault → ℕ
code_of (Circuit fault) = read.code_of fault
code_of WrongCount = 14
code_of (Value fault) = value.code_of fault
code_of BadSeed = 18
code_of NoSuchValue = 42
code_of (Garbling fault) = work.code_of fault
code_of (File fault) = held.code_of fault
code_of (Binding fault) = bind_code_of fault
code_of (Evaluation fault) = eval_code_of fault
code_of BadList = 53
code_of CannotRead = 50
code_of CannotWrite = 51
code_of Memory = 52

-- `fault`, the number in decimal digits, and the name
abbrev pub fault_text : Fault → List ℕ
fault_text fault = codes "fault " ++ decimal (code_of fault) ++ 32 ∷ fault_name (code_of fault)

-- the fault of a command where taking a garbled file has this one
abbrev pub IsFaultOfTaking : TakeFault → Fault → Type 0
IsFaultOfTaking (take.File fault) e = e ≡ File fault
IsFaultOfTaking (take.ReadFault got) e = e ≡ CannotRead

-- the fault of a command where a call on a file has this one
abbrev pub IsFaultOfFile : FileError → Fault → Type 0
IsFaultOfFile file.CannotRead fault = fault ≡ CannotRead
IsFaultOfFile file.CannotWrite fault = fault ≡ CannotWrite
IsFaultOfFile file.Memory fault = fault ≡ Memory

-- A fault of a file has its cause: a file that can't be read has failed, or one that can't be written.
abbrev pub HasCause : Fault → Type 0 → Type 0 → Type 0
HasCause CannotRead Reading Writing = Reading
HasCause CannotWrite Reading Writing = Writing
HasCause fault Reading Writing = Unit {0}

-- The same where the file of this name is read, and none is written,
abbrev pub HasReadCause : FailedFiles → FailedFiles → List ℕ → Fault → Type 0
HasReadCause old new name fault = HasCause fault (HasFailed old new name) ⊥

-- or where the file of this name is written, and none is read.
abbrev pub HasWriteCause : FailedFiles → FailedFiles → List ℕ → Fault → Type 0
HasWriteCause old new name fault = HasCause fault ⊥ (HasFailed old new name)
