-- The files that `run` makes for itself.
use Rattle.std.specs.Prelude.{◌≡◌, ℕ, Bool, List, length, slice_get, Some}
use Rattle.gc_netlist.specs.Circuit.{Netlist}
use Rattle.gc_half.specs.Garbling.{GarblingParts, IsGarbled}
use Rattle.gc_file.specs.declared.parts.Version.TheVariants.{Two}
use Rattle.gc_file.specs.GarbledFile.{garbled_file}
use Rattle.gc_file.specs.LabelFile.{LabelFileParts, label_parts_of}
use Rattle.gc_file.specs.Honest.{honest_parts}

-- The bytes are the garbled file, in version 2, of the circuit's garbling under the seed.
pub record AreGarbledBytes (c : Netlist) (seed bytes : List ℕ) : Type 0 where
  pub garbling : GarblingParts
  pub garbled : IsGarbled c seed garbling
  pub spelled : bytes ≡ garbled_file (honest_parts Two c garbling seed)

-- The files are the label files of these input values under the seed, in order.
pub record AreLabelFilesOf (c : Netlist) (seed : List ℕ) (values : List (List Bool))
    (files : List LabelFileParts) : Type 0 where
  pub count : length files ≡ length values
  pub each : (k : ℕ) (bits : List Bool) → slice_get values k ≡ Some bits
      → slice_get files k ≡ Some (label_parts_of c seed k bits)
