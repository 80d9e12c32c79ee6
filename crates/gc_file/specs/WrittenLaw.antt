-- What the writers write are files.
use Rattle.std.specs.Prelude.{◌≡◌, ℕ, ◌<◌, ◌^◌, Bool, List, length, slice_get, Some}
use Rattle.gc_netlist.specs.Circuit.{Netlist}
use Rattle.gc_half.specs.Canonical.{garbling_of}
use Rattle.gc_file.specs.GarbledFile.{IsGarbledFile, garbled_file}
use Rattle.gc_file.specs.LabelFile.{IsLabelFile, label_file, label_parts_of}
use Rattle.gc_file.specs.Written.{parts_one, parts_two}

-- The files of a circuit's garbling under a seed, in both versions, and of the bits of each input value.
pub record AreFiles (c : Netlist) (seed : List ℕ) : Type 0 where
  pub one : IsGarbledFile (garbled_file (parts_one c (garbling_of c seed)))
      (parts_one c (garbling_of c seed))
  pub two : IsGarbledFile (garbled_file (parts_two c (garbling_of c seed) seed))
      (parts_two c (garbling_of c seed) seed)
  pub labels : (index : ℕ) (bits : List Bool) → index < 2 ^ 32
      → slice_get c.input_widths index ≡ Some (length bits) →
      IsLabelFile (label_file (label_parts_of c seed index bits)) (label_parts_of c seed index bits)
