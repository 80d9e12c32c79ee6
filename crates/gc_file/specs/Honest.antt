-- What the garbled file of an honest garbler holds.
use Rattle.std.specs.Prelude.{◌≡◌, ℕ, List, [], length}
use Rattle.gc_netlist.specs.Circuit.{Netlist}
use Rattle.gc_label.specs.Seed.{offset_of}
use Rattle.gc_half.specs.Garbling.{GarblingParts, FitsCircuit}
use Rattle.gc_file.specs.declared.parts.Version.{Version}
use Rattle.gc_file.specs.declared.parts.Version.TheVariants.{One, Two}
use Rattle.gc_file.specs.declared.parts.EntryPair.{EntryPair}
use Rattle.gc_file.specs.declared.write.Trailer.{Trailer}
use Rattle.gc_file.specs.declared.write.Trailer.TheVariants.{Written, Omitted}
use Rattle.gc_file.specs.GarbledFile.{GarbledParts, parts_of, body, garbled_file}
use Rattle.gc_file.specs.Written.{entry_pairs_of}

-- The entry pairs of a garbling's file of a version: version 1 has none.
abbrev pub version_entries : Version → ℕ → GarblingParts → List EntryPair
version_entries One offset g = []
version_entries Two offset g = entry_pairs_of offset g

-- What the garbled file of a version holds, of a circuit's garbling with an offset,
abbrev pub honest_parts_with : Version → Netlist → GarblingParts → ℕ → GarbledParts
honest_parts_with version c g offset = parts_of version c g (version_entries version offset g)

-- and under a seed.
abbrev pub honest_parts : Version → Netlist → GarblingParts → List ℕ → GarbledParts
honest_parts version c g seed = honest_parts_with version c g (offset_of seed)

-- The bytes of a garbled file that are written: with its trailer, or without.
abbrev pub written_part : Trailer → GarbledParts → List ℕ
written_part Written p = garbled_file p
written_part Omitted p = body p

-- The number is that of the bytes of the garbled file of a version, for any garbling with the circuit's counts and any
-- offset, so for the circuit's garbling under any seed.
abbrev pub IsFileSize : Version → Netlist → ℕ → Type 0
IsFileSize version c n =
    (offset : ℕ) (g : GarblingParts) → FitsCircuit c g
    → n ≡ length (garbled_file (honest_parts_with version c g offset))
