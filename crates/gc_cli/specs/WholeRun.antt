-- The outcome of a whole run, by the arguments that the words of its command line stand for.
use Rattle.std.specs.Prelude.{◌≡◌, ℕ, List}
use Rattle.gc_disk.specs.Files.{FileBytes}
use Rattle.gc_command.specs.declared.fault.Fault.{Fault}
use Rattle.gc_command.specs.declared.fault.Fault.TheVariants as fault
use Rattle.gc_command.specs.Wrote.{KeepsFiles}
use Rattle.gc_cli.specs.declared.arguments.Refusal.{Refusal}
use Rattle.gc_cli.specs.declared.arguments.Refusal.TheVariants.{NoFile, CannotRead, Memory}
use Rattle.gc_cli.specs.Arguments.{IsRefusedLine, LineStandsFor}
use Rattle.gc_cli.specs.Output.{Printed}
use Rattle.gc_cli.specs.Serve.{PrintsFault}

-- The words stand for arguments of which this is true.
abbrev pub IsOf : FileBytes → List (List ℕ) → (List (List ℕ) → Type 0) → Type 0
IsOf files words P = (arguments : List (List ℕ))
    × (LineStandsFor files words arguments × P arguments)

-- The option comes last, without a file. No file has to fail for that.
abbrev pub LackFile : FileBytes → List (List ℕ) → Type 0
LackFile files words = IsRefusedLine files (λ name. ⊥) words NoFile

-- The fault of a run whose words are refused for this reason.
abbrev pub IsFaultOf : Refusal → Fault → Type 0
IsFaultOf CannotRead e = e ≡ fault.CannotRead
IsFaultOf Memory e = e ≡ fault.Memory
IsFaultOf NoFile e = ⊥

-- The words are refused, for which there is a fault, and standard error has its line, unless a call to print it failed.
-- Nothing is printed on standard output, and every file is as it was.
abbrev pub EndsByRefusal : FileBytes → FileBytes → (List ℕ → Type 0) → List (List ℕ) → Printed
    → Printed → Printed → Printed → Type 0
EndsByRefusal old new Failed words out out_after err err_after =
    (refusal : Refusal) × (IsRefusedLine old Failed words refusal
    × ((fault : Fault) × (IsFaultOf refusal fault
    × (PrintsFault err err_after fault × ((out_after ≡ out) × KeepsFiles old new)))))
