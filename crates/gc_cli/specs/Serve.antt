-- The outcome of a whole run.
use Rattle.std.specs.Prelude.{◌≡◌, ℕ, ◌+◌, ◌⊎◌, ◌||◌, Bool, IsTrue, true, false, List, [], ◌∷◌, ◌++◌, codes}
use Rattle.std.specs.Io.KnownBytes.{Appends}
use Rattle.std.specs.declared.io.ErrorKind.{ErrorKind}
use Rattle.std.specs.declared.io.ErrorKind.TheVariants.{InvalidData, OutOfMemory}
use Rattle.gc_order.specs.Order.{OrderText, explains_in}
use Rattle.gc_disk.specs.Files.{FileBytes}
use Rattle.gc_command.specs.declared.fault.Fault.{Fault}
use Rattle.gc_command.specs.declared.fault.Fault.TheVariants.{CannotWrite}
use Rattle.gc_command.specs.Fault.{fault_text}
use Rattle.gc_command.specs.Wrote.{KeepsFiles}
use Rattle.gc_explain.specs.Explain.{Explains}
use Rattle.gc_cli.specs.CarryOut.{AnswersCommand, HasFault, Writes}
use Rattle.gc_cli.specs.CommandLine.{IsOrder, AsksForText}
use Rattle.gc_cli.specs.Output.{Printed}

-- What an order returns is printed, and no call to print failed. `honest` is false of an audit that finds its files
-- dishonest alone. `before` and `after` are of standard output.
abbrev pub PrintsAnswer : FileBytes → FileBytes → OrderText → Bool → Printed → Printed → Type 0
PrintsAnswer old new order honest before after =
    ((out : List ℕ) × AnswersCommand old new order honest out
    × Appends before.contents after.contents out)
    × (after.failures ≡ before.failures)

-- A call to print failed, and that is the fault.
abbrev pub FailsToPrint : Printed → Printed → Fault → Type 0
FailsToPrint before after fault =
    (fault ≡ CannotWrite) × (after.failures ≡ before.failures + 1)

-- A fault that an order has ends it: nothing is printed, and every file is as it was. Or a call to print its result
-- failed. `Failed` says of a name that its file has failed.
abbrev pub FailsToAnswer : FileBytes → FileBytes → (List ℕ → Type 0) → OrderText → Printed → Printed
    → Fault → Type 0
FailsToAnswer old new Failed order before after fault =
    (HasFault old Failed order fault × (after ≡ before)
    × KeepsFiles old new)
    ⊎ (((honest : Bool) × ((out : List ℕ) × AnswersCommand old new order honest out))
    × FailsToPrint before after fault)

-- A successful run has printed what its order returns, or a text that its arguments ask for, and no call to print
-- failed. Where the order is an audit, it has found the files honest.
abbrev pub IsSuccessful : FileBytes → FileBytes → List (List ℕ) → Printed → Printed → Type 0
IsSuccessful old new words before after =
    ((order : OrderText) × IsOrder words order × PrintsAnswer old new order true before after)
    ⊎ (AsksForText words × (after.failures ≡ before.failures))

-- Or its order is an audit that has found the files dishonest, and what it returns is printed.
abbrev pub FindsDishonest : FileBytes → FileBytes → List (List ℕ) → Printed → Printed → Type 0
FindsDishonest old new words before after =
    (order : OrderText) × IsOrder words order × PrintsAnswer old new order false before after

-- A fault that ends a run ends its order; or a call to print a text that its arguments ask for failed.
abbrev pub IsFaulty : FileBytes → FileBytes → (List ℕ → Type 0) → List (List ℕ) → Printed → Printed
    → Fault → Type 0
IsFaulty old new Failed words before after fault =
    ((order : OrderText) × IsOrder words order
    × FailsToAnswer old new Failed order before after fault)
    ⊎ (AsksForText words × FailsToPrint before after fault)

-- The arguments are an order that writes the file of this name.
abbrev pub AskToWrite : List (List ℕ) → List ℕ → Type 0
AskToWrite words name = (order : OrderText) × IsOrder words order × Writes order name

-- the line of a fault on standard error
abbrev pub error_line : Fault → List ℕ
error_line fault = codes "halfgates: " ++ fault_text fault ++ 10 ∷ []

-- why the arguments can't be read, by the kind of the error that asking for them gave
abbrev pub reason_of : ErrorKind → List ℕ
reason_of InvalidData = codes "a word is not UTF-8"
reason_of OutOfMemory = codes "out of memory"
reason_of _ = codes "its words can't be read"

-- the line on standard error that says it
abbrev pub refusal_line : ErrorKind → List ℕ
refusal_line kind = codes "error: the command line can't be read: " ++ reason_of kind ++ 10 ∷ []

-- Standard error, as it was before and after, has this line, unless a call to print it failed.
abbrev pub PrintsLine : Printed → Printed → List ℕ → Type 0
PrintsLine before after line =
    after.failures ≡ before.failures → Appends before.contents after.contents line

-- It has the line of the fault.
abbrev pub PrintsFault : Printed → Printed → Fault → Type 0
PrintsFault before after fault = PrintsLine before after (error_line fault)

-- Standard error, as it was before and after, has nothing more; or, where the fault of an order is to be explained, it
-- has the line that explains it, unless a call to print that failed. `bytes` are those of the files.
abbrev pub AddsExplanation : FileBytes → OrderText → Bool → Fault → Printed → Printed → Type 0
AddsExplanation bytes order explains fault before after =
    (after ≡ before)
    ⊎ (IsTrue explains
    × ((line : List ℕ) × Explains bytes order fault line × PrintsLine before after line))

-- The same where the arguments are an order, with the flag `--explain` or without it.
abbrev pub TellsMore : FileBytes → List (List ℕ) → Bool → Fault → Printed → Printed → Type 0
TellsMore bytes words explains fault before after =
    (after ≡ before)
    ⊎ ((order : OrderText) × IsOrder words order
    × AddsExplanation bytes order (explains || explains_in words) fault before after)

-- A fault ended the run, and standard error has its line, unless a call to print it failed, and after it perhaps the
-- line that explains it.
abbrev pub EndsByFault : FileBytes → FileBytes → (List ℕ → Type 0) → List (List ℕ) → Bool → Printed
    → Printed → Printed → Printed → Type 0
EndsByFault old new Failed words explains out out_after err err_after =
    (fault : Fault)
    × (IsFaulty old new Failed words out out_after fault
    × ((reported : Printed) × PrintsFault err reported fault
    × TellsMore new words explains fault reported err_after))

-- It has the line that says why the arguments can't be read.
abbrev pub PrintsRefusal : Printed → Printed → ErrorKind → Type 0
PrintsRefusal before after kind = PrintsLine before after (refusal_line kind)
