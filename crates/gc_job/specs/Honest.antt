-- The jobs that an honest garbler and honest dealers make, and the files that they make them of.
use Rattle.std.specs.Prelude.{◌≡◌, ℕ, ◌<◌, Bool, List, length, slice_get, flat_map, Some, Result, MatchResult}
use Rattle.gc_netlist.specs.Circuit.{Netlist, input_wires}
use Rattle.gc_circuit.specs.Meaning.{Fits, AreOutputs}
use Rattle.gc_label.specs.Seed.{offset_of}
use Rattle.gc_half.specs.Garbling.{GarblingParts, decode_bits_of, IsGarbled}
use Rattle.gc_file.specs.declared.parts.Version.{Version}
use Rattle.gc_file.specs.GarbledFile.{GarbledParts}
use Rattle.gc_file.specs.LabelFile.{LabelFileParts, encoded_from, label_parts_of}
use Rattle.gc_file.specs.Honest.{version_entries, honest_parts}
use Rattle.gc_job.specs.declared.fault.BindFault.{BindFault}
use Rattle.gc_job.specs.declared.fault.EvalFault.{EvalFault}
use Rattle.gc_job.specs.declared.fault.EvalFault.TheVariants.{Memory}
use Rattle.gc_job.specs.Job.{JobParts}
use Rattle.gc_job.specs.Evaluate.{IsEvaluated}
use Rattle.gc_job.specs.Binding.{HasFile, FirstBindFault, IsBound}

-- The job's rows, decode bits and entries are those of the circuit's garbling under the seed, and its input labels
-- stand for these bits of the input wires.
pub record IsHonest (job : JobParts) (seed : List ℕ) (bits : List Bool) : Type 0 where
  pub garbling : GarblingParts
  pub garbled : IsGarbled job.circuit seed garbling
  pub rows : job.rows ≡ garbling.rows
  pub decode_bits : job.decode_bits ≡ decode_bits_of garbling
  pub entries : job.entries ≡ version_entries job.version (offset_of seed) garbling
  pub fits : length bits ≡ input_wires job.circuit
  pub inputs : job.inputs ≡ encoded_from 0 seed bits

-- The garbled file is that of the circuit's garbling under the seed, in one version or the other.
pub record IsHonestGarbled (c : Netlist) (seed : List ℕ) (g : GarbledParts) : Type 0 where
  pub version : Version
  pub garbling : GarblingParts
  pub garbled : IsGarbled c seed garbling
  pub parts : g ≡ honest_parts version c garbling seed

-- The label file is that of one of these input values under the seed.
pub record IsHonestLabels (c : Netlist) (seed : List ℕ) (values : List (List Bool))
    (file : LabelFileParts) : Type 0 where
  pub bits : List Bool
  pub value : slice_get values file.index ≡ Some bits
  pub parts : file ≡ label_parts_of c seed file.index bits

-- The files are an honest garbler's and honest dealers': the garbled file of the circuit and, in any order, one label
-- file for each of these values, which fit the circuit.
pub record AreHonestFiles (c : Netlist) (seed : List ℕ) (values : List (List Bool))
    (g : GarbledParts) (files : List LabelFileParts) : Type 0 where
  pub garbled : IsHonestGarbled c seed g
  pub fits : Fits c values
  pub labels : (i : ℕ) (file : LabelFileParts) → slice_get files i ≡ Some file
      → IsHonestLabels c seed values file
  pub each : (value : ℕ) → value < length values → HasFile files value
  pub once : (i k : ℕ) (file other : LabelFileParts) → slice_get files i ≡ Some file
      → slice_get files k ≡ Some other → file.index ≡ other.index → i ≡ k

-- Such files have no fault; the job that they are bound to is honest, and its input labels stand for the values; and
-- its evaluation returns the circuit's outputs, unless memory is missing.
pub record HonestFilesLaw (c : Netlist) (seed : List ℕ) (values : List (List Bool))
    (g : GarbledParts) (files : List LabelFileParts) : Type 0 where
  pub no_fault : (fault : BindFault) → FirstBindFault c g files fault → ⊥
  pub honest : (job : JobParts) → IsBound c g files job
      → IsHonest job seed (flat_map (λ value. value) values)
  pub outputs : (job : JobParts) → IsBound c g files job → (result : Result (List Bool) EvalFault)
      → IsEvaluated job result →
      MatchResult result (AreOutputs c (flat_map (λ value. value) values)) (λ fault. fault ≡ Memory)
