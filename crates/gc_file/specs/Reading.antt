-- What readers of files return.
use Rattle.std.specs.Prelude.{◌≡◌, ◌≢◌, ℕ, ◌≤◌, ◌-◌, List, ◌++◌, length, take, Result, Ok, Err}
use Rattle.gc_netlist.specs.declared.limits.TheConstants.{MAX_WIRES}
use Rattle.gc_file.specs.declared.fault.FileFault.{FileFault}
use Rattle.gc_file.specs.declared.fault.FileFault.TheVariants.{Memory}
use Rattle.gc_file.specs.GarbledFile.{GarbledParts, IsGarbledFile}
use Rattle.gc_file.specs.LabelFile.{LabelFileParts, label_magic, IsLabelFile}
use Rattle.gc_file.specs.FileFault.{LastingFault, FirstGarbledFault, IsSound, MatchesMagic, label_count, labels_end, FirstLabelFault}

-- The bytes are read: the parts of the file that they are, or else their first fault. Memory may be missing instead.
abbrev pub IsRead : List ℕ → Result GarbledParts FileFault → Type 0
IsRead bytes (Ok parts) = IsGarbledFile bytes parts
IsRead bytes (Err e) = e ≢ Memory → FirstGarbledFault bytes e

-- The bytes before a trailer: all but the last 32.
abbrev pub before_trailer : List ℕ → List ℕ
before_trailer bytes = take (length bytes - 32) bytes

-- The same for a label file.
abbrev pub IsLabelsRead : List ℕ → Result LabelFileParts FileFault → Type 0
IsLabelsRead bytes (Ok parts) = IsLabelFile bytes parts
IsLabelsRead bytes (Err e) = e ≢ Memory → FirstLabelFault bytes e

-- The bytes have the form of a label file, or else they have this first fault.
pub record IsLabelForm (bytes : List ℕ) : Type 0 where
  pub begun : MatchesMagic label_magic bytes
  pub header : 16 ≤ length bytes
  pub few_labels : label_count bytes ≤ MAX_WIRES
  pub whole : length bytes ≡ labels_end bytes

abbrev pub IsLabelsChecked : List ℕ → Result (Unit {0}) FileFault → Type 0
IsLabelsChecked bytes (Ok done) = IsLabelForm bytes
IsLabelsChecked bytes (Err e) = FirstLabelFault bytes e

-- A reader of pieces is seen as the bytes that it was fed, which are sound, or as the fault that it returns from then
-- on.
abbrev pub Fed : Type 0
Fed = Result (List ℕ) FileFault

-- A piece is fed to a reader: this result, and the reader afterwards.
abbrev pub IsFed : Fed → List ℕ → Result (Unit {0}) FileFault → Fed → Type 0
IsFed (Err fault) piece answer after = (answer ≡ Err fault) × (after ≡ Err fault)
IsFed (Ok bytes) piece (Ok done) after = (after ≡ Ok (bytes ++ piece)) × IsSound (bytes ++ piece)
IsFed (Ok bytes) piece (Err e) after =
    (after ≡ Err e) × (e ≢ Memory → LastingFault (bytes ++ piece) e)

-- A reader is asked for the file.
abbrev pub IsEnded : Fed → Result GarbledParts FileFault → Type 0
IsEnded (Err fault) answer = answer ≡ Err fault
IsEnded (Ok bytes) answer = IsRead bytes answer
