-- How far a reader of a garbled file has come.
use Rattle.std.specs.Prelude.{◌≡◌, ◌≢◌, ℕ, ◌<◌, List, ◌++◌, length, Result, Ok, Err}
use Rattle.gc_file.specs.declared.fault.FileFault.{FileFault}
use Rattle.gc_file.specs.declared.fault.FileFault.TheVariants.{Memory}
use Rattle.gc_file.specs.declared.parts.Version.{Version}
use Rattle.gc_file.specs.declared.reader.State.{State}
use Rattle.gc_file.specs.declared.reader.State.TheVariants.{Header, Body, Failed}
use Rattle.gc_file.specs.FileFault.{IsHeaderInOrder, IsSound, LastingFault}
use Rattle.gc_file.specs.Reading.{Fed}

-- The bytes that came, or the fault that was met.
abbrev pub fed_of : {A : Type 0} → State A → Fed
fed_of (Header header) = Ok header.items
fed_of (Body bytes) = Ok bytes
fed_of (Failed fault) = Err fault

-- What came is in order as far as it goes.
abbrev pub IsState : {A : Type 0} → State A → Type 0
IsState (Header header) =
    (length header.items < 48) × ((version : Version) × IsHeaderInOrder version header.items)
IsState (Body bytes) = IsSound bytes
IsState (Failed fault) = Unit {0}

-- The state with a piece more, or the fault that comes with it.
abbrev pub IsMore : {A : Type 0} → List ℕ → Result (State A) FileFault → Type 0
IsMore bytes (Ok state) = (fed_of state ≡ Ok bytes) × IsState state
IsMore bytes (Err e) = e ≢ Memory → LastingFault bytes e

abbrev pub IsAdvanced : {A : Type 0} → State A → List ℕ → Result (State A) FileFault → Type 0
IsAdvanced (Header header) piece result = IsMore (header.items ++ piece) result
IsAdvanced (Body bytes) piece result = IsMore (bytes ++ piece) result
IsAdvanced (Failed fault) piece result = result ≡ Err fault
