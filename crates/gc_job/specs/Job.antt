-- A job: what the evaluator of a garbled circuit is given.
use Rattle.std.specs.Prelude.{◌≡◌, ℕ, Bool, List, length}
use Rattle.gc_netlist.specs.Circuit.{Netlist, input_wires, output_wires, and_count, IsLawful}
use Rattle.gc_half.specs.declared.garbling.RowPair.{RowPair}
use Rattle.gc_file.specs.declared.parts.Version.{Version}
use Rattle.gc_file.specs.declared.parts.EntryPair.{EntryPair}
use Rattle.gc_file.specs.GarbledFile.{GarbledParts}

-- A circuit; the version, rows, decode bits and entries of a garbled file; and a label for each input wire.
pub record JobParts : Type 0 where
  pub circuit : Netlist
  pub version : Version
  pub rows : List RowPair
  pub decode_bits : List Bool
  pub entries : List EntryPair
  pub inputs : List ℕ

-- The circuit is lawful, and there are as many row pairs, decode bits and input labels as it has AND gates, output
-- wires and input wires.
pub record IsWhole (job : JobParts) : Type 0 where
  pub lawful : IsLawful job.circuit
  pub rows : length job.rows ≡ and_count job.circuit
  pub decode_bits : length job.decode_bits ≡ output_wires job.circuit
  pub inputs : length job.inputs ≡ input_wires job.circuit

-- The job of a circuit, what a garbled file holds, and input labels.
abbrev pub job_of : Netlist → GarbledParts → List ℕ → JobParts
job_of c g inputs = record {
  circuit = c;
  version = g.version;
  rows = g.rows;
  decode_bits = g.decode_bits;
  entries = g.entries;
  inputs = inputs;
}

-- A job without its circuit.
pub record DetachedParts : Type 0 where
  pub garbled : GarbledParts
  pub inputs : List ℕ
