-- Which place the line that explains a fault names.
use Rattle.std.specs.Prelude.{◌≡◌, ℕ, ◌⊎◌, List, [], ◌∷◌, ◌++◌, Option, codes, IfSome}
use Rattle.gc_netlist.specs.declared.fault.ReadFault.{ReadFault}
use Rattle.gc_netlist.specs.declared.fault.ReadFault.TheVariants as read
use Rattle.gc_netlist.specs.Place.{IsLocated}
use Rattle.gc_circuit.specs.declared.locate.Located.{Located}
use Rattle.gc_file.specs.declared.fault.FileFault.{FileFault}
use Rattle.gc_file.specs.declared.fault.FileFault.TheVariants as file
use Rattle.gc_file.specs.FileFault.{FirstGarbledFault, FirstLabelFault}
use Rattle.gc_disk.specs.Files.{FileBytes}
use Rattle.gc_order.specs.Order.{OrderText, run, plain, check, locate, stats, by_depth, garble, deal, eval, jobs, list_labels, audit}
use Rattle.gc_command.specs.declared.fault.Fault.{Fault}
use Rattle.gc_command.specs.declared.fault.Fault.TheVariants.{Circuit, File, Evaluation}
use Rattle.gc_job.specs.declared.fault.EvalFault.TheVariants.{UnknownOutputLabel}
use Rattle.gc_explain.specs.Places.{byte_place, file_place, located_place}
use Rattle.gc_explain.specs.Output.{IsOutputPlace}

-- the name of the circuit's file
abbrev pub circuit_name : OrderText → List ℕ
circuit_name (run circuit seed workers hex values) = circuit
circuit_name (plain circuit hex values) = circuit
circuit_name (check circuit) = circuit
circuit_name (locate circuit) = circuit
circuit_name (stats circuit) = circuit
circuit_name (by_depth circuit out) = circuit
circuit_name (garble circuit seed out version workers) = circuit
circuit_name (deal circuit seed index value out) = circuit
circuit_name (eval circuit garbled workers hex labels) = circuit
circuit_name (jobs circuit list workers hex) = circuit
circuit_name (list_labels circuit seed from count values) = circuit
circuit_name (audit circuit seed garbled labels) = circuit

-- the line that tells a sentence of a place
abbrev pub explanation_line : List ℕ → List ℕ → List ℕ
explanation_line place sentence = codes "halfgates: " ++ place ++ sentence ++ 10 ∷ []

-- The place is where the first fault of a circuit's file is, as `locate` finds it, and the fault is this one. Where the
-- file can't be read once more, it is the whole file.
abbrev pub IsCircuitPlace : Option (List ℕ) → List ℕ → ReadFault → List ℕ → Type 0
IsCircuitPlace bytes name fault place =
    (place ≡ file_place name)
    ⊎ ((l : Located) × (l.fault ≡ fault) × (place ≡ located_place name l)
    × IfSome bytes (λ held. IsLocated held l.fault l.line l.column l.gate l.wire))

-- A garbled file, or a label file, with these bytes has this first fault.
abbrev pub HasFileFault : FileFault → List ℕ → Type 0
HasFileFault fault bytes = FirstGarbledFault bytes fault ⊎ FirstLabelFault bytes fault

-- The place is a byte of a file that has this first fault. Where the file can't be read once more, it is the whole
-- file.
abbrev pub IsFilePlace : FileBytes → FileFault → List ℕ → Type 0
IsFilePlace bytes fault place =
    (name : List ℕ) × ((place ≡ file_place name)
    ⊎ ((byte : ℕ) × (place ≡ byte_place name byte) × IfSome (bytes name) (HasFileFault fault)))

-- The place that is named for a fault of an order: of the faults 1 to 12 one of the circuit's file, of 30 to 35 one of
-- a garbled file or a label file, and of 48 the garbled file or a line of the list.
abbrev pub IsPlace : FileBytes → OrderText → Fault → List ℕ → Type 0
IsPlace bytes order (Circuit read.Memory) place = place ≡ []
IsPlace bytes order (Circuit fault) place =
    IsCircuitPlace (bytes (circuit_name order)) (circuit_name order) fault place
IsPlace bytes order (File file.Memory) place = Unit {0}
IsPlace bytes order (File fault) place = IsFilePlace bytes fault place
IsPlace bytes order (Evaluation (UnknownOutputLabel output)) place =
    IsOutputPlace bytes order output place
IsPlace bytes order _ place = Unit {0}

-- The line explains a fault of an order.
abbrev pub Explains : FileBytes → OrderText → Fault → List ℕ → Type 0
Explains bytes order fault line =
    (place : List ℕ) × (sentence : List ℕ) × (line ≡ explanation_line place sentence)
    × IsPlace bytes order fault place
