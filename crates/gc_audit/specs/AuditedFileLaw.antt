-- The law of audited files.
use Rattle.std.specs.Prelude.{◌≡◌, ◌↔◌, ℕ, Bool, List, length, slice_get, Some}
use Rattle.gc_netlist.specs.Circuit.{Netlist, output_wires, and_count}
use Rattle.gc_half.specs.Canonical.{garbling_of}
use Rattle.gc_file.specs.GarbledFile.{GarbledParts, IsGarbledFile, garbled_file}
use Rattle.gc_file.specs.LabelFile.{LabelFileParts, IsLabelFile, label_file, label_parts_of}
use Rattle.gc_file.specs.Honest.{honest_parts}
use Rattle.gc_audit.specs.Garbled.{AreCountsRight}
use Rattle.gc_audit.specs.Labels.{IsDealt}

-- What is found of the parts of files that were read holds of their bytes.
pub record AuditedFileLaw (c : Netlist) (seed : List ℕ) : Type 0 where
  -- The counts of a garbled file are right exactly where it has a row pair for each AND gate and a decode bit for each
  -- output wire. The entry pairs of its version are always there.
  pub counts : (bytes : List ℕ) (file : GarbledParts) → IsGarbledFile bytes file →
      AreCountsRight c file
      ↔ ((length file.rows ≡ and_count c) × (length file.decode_bits ≡ output_wires c))
  -- Its parts are honest exactly where its bytes are the honest garbled file of its version.
  pub garbled : (bytes : List ℕ) (file : GarbledParts) → IsGarbledFile bytes file →
      let honest = honest_parts file.version c (garbling_of c seed) seed in
      (file ≡ honest) ↔ (bytes ≡ garbled_file honest)
  -- The parts of a label file are the dealer's for some bits exactly where its bytes are the label file of these bits.
  pub labels : (bytes : List ℕ) (file : LabelFileParts) → IsLabelFile bytes file
      → (bits : List Bool) → slice_get c.input_widths file.index ≡ Some (length bits) →
      IsDealt c seed file bits ↔ (bytes ≡ label_file (label_parts_of c seed file.index bits))
