-- What a writer of a file does to its sink, and the files that are written.
use Rattle.std.specs.Prelude.{◌≡◌, ℕ, ◌^◌, ◌<◌, ◌≤◌, true, false, List, [], ◌++◌, length, map, flat_map, take, Option, Result, Ok, Err}
use Rattle.std.specs.List.{range_with_len}
use Rattle.std.specs.Io.KnownBytes.{Appends}
use Rattle.gc_netlist.specs.Circuit.{Netlist}
use Rattle.gc_label.specs.Seed.{offset_of}
use Rattle.gc_half.specs.Garbling.{GarblingParts}
use Rattle.gc_half.specs.Entry.{entry_of}
use Rattle.gc_file.specs.declared.parts.EntryPair.{EntryPair}
use Rattle.gc_file.specs.declared.parts.Version.TheVariants.{One, Two}
use Rattle.gc_file.specs.declared.writer.WriteFault.{WriteFault}
use Rattle.gc_file.specs.DecodeBits.{packed}
use Rattle.gc_file.specs.GarbledFile.{GarbledParts, parts_of, header, row_bytes}

-- The sink took the whole file, and its length is the result; or it took the first `sent` bytes of it, which are not
-- all, and no others. `old` and `new` are the bytes that it has taken, where they are known.
abbrev pub IsWritten : List ℕ → Result ℕ WriteFault → Option (List ℕ) → Option (List ℕ) → Type 0
IsWritten file (Ok n) old new = (n ≡ length file) × Appends old new file
IsWritten file (Err fault) old new =
    (fault.sent < length file) × Appends old new (take fault.sent file)

-- The counts of the garbling are numbers of 32 bits, and it has a zero label for each output wire.
pub record IsSmall (g : GarblingParts) : Type 0 where
  pub rows : length g.rows < 2 ^ 32
  pub outputs : g.outputs < 2 ^ 32
  pub fits : g.outputs ≤ length g.zero_labels

-- The entry pair of an output wire,
abbrev pub entry_pair_of : ℕ → GarblingParts → ℕ → EntryPair
entry_pair_of offset g i = record {
  entry_zero = entry_of offset g i false;
  entry_one = entry_of offset g i true;
}

-- of n of them in order, from this one on,
abbrev pub entry_pairs_from : ℕ → GarblingParts → ℕ → ℕ → List EntryPair
entry_pairs_from offset g first n = map (entry_pair_of offset g) (range_with_len first n)

-- and of all of them.
abbrev pub entry_pairs_of : ℕ → GarblingParts → List EntryPair
entry_pairs_of offset g = entry_pairs_from offset g 0 g.outputs

-- What the garbled file of a garbling holds, in version 1,
abbrev pub parts_one : Netlist → GarblingParts → GarbledParts
parts_one c g = parts_of One c g []

-- and in version 2, under its seed.
abbrev pub parts_two : Netlist → GarblingParts → List ℕ → GarbledParts
parts_two c g seed = parts_of Two c g (entry_pairs_of (offset_of seed) g)

-- The part of a garbled file before its entries.
abbrev pub front : GarbledParts → List ℕ
front p = header p ++ flat_map row_bytes p.rows ++ packed p.decode_bits
