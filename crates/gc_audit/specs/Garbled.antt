-- What an audit finds of a garbled file.
use Rattle.std.specs.Prelude.{◌≡◌, ◌↔◌, ℕ, Bool, true, IsTrue, List, length, Option, MatchOption, Some, None}
use Rattle.sha2.specs.Sha256.{sha256}
use Rattle.gc_netlist.specs.Circuit.{Netlist, output_wires, and_count}
use Rattle.gc_netlist.specs.Canon.{canonical_text}
use Rattle.gc_label.specs.Seed.{offset_of}
use Rattle.gc_half.specs.declared.garbling.RowPair.{RowPair}
use Rattle.gc_half.specs.Garbling.{GarblingParts, decode_bits_of}
use Rattle.gc_file.specs.GarbledFile.{GarbledParts, entry_count}
use Rattle.gc_file.specs.Honest.{version_entries}
use Rattle.gc_audit.specs.declared.garbled.GarbledAudit.{GarbledAudit}
use Rattle.gc_audit.specs.declared.garbled.PartsAudit.{PartsAudit}
use Rattle.gc_audit.specs.declared.rows.RowDifference.{RowDifference}
use Rattle.gc_audit.specs.Difference.{DifferFirstAt}
use Rattle.gc_audit.specs.Rows.{IsRowDifference}
use Rattle.gc_audit.specs.Entries.{IsEntryDifference}

-- The counts are right: the file has a row pair for each AND gate and a decode bit for each output wire. It has the
-- entry pairs of its version, as each file that was read has.
pub record AreCountsRight (c : Netlist) (file : GarbledParts) : Type 0 where
  pub rows : length file.rows ≡ and_count c
  pub decode_bits : length file.decode_bits ≡ output_wires c
  pub entries : length file.entries ≡ entry_count file.version (length file.decode_bits)

-- What is found of row pairs by a garbling of the circuit: the first that differs, or that none does.
abbrev pub IsRowsAudit : Netlist → GarblingParts → List RowPair → Option RowDifference → Type 0
IsRowsAudit c g rows found = MatchOption found (rows ≡ g.rows) (IsRowDifference c rows g.rows)

-- The same of decode bits.
abbrev pub IsBitsAudit : GarblingParts → List Bool → Option ℕ → Type 0
IsBitsAudit g bits found =
    MatchOption found (bits ≡ decode_bits_of g) (DifferFirstAt bits (decode_bits_of g))

-- What is found of the parts of a file whose counts are right, by a garbling of the circuit with this offset: of each
-- the first difference, or that there is none. Version 1 has no entries, and so no difference in them.
pub record IsPartsAuditWith (c : Netlist) (g : GarblingParts) (offset : ℕ) (file : GarbledParts)
    (audit : PartsAudit) : Type 0 where
  pub counts : AreCountsRight c file
  pub rows : IsRowsAudit c g file.rows audit.rows
  pub bits : IsBitsAudit g file.decode_bits audit.bits
  pub entries : let entries = version_entries file.version offset g in
      MatchOption audit.entries (file.entries ≡ entries) (IsEntryDifference file.entries entries)

-- What is found of a garbled file: whether its digest is the circuit's, the SHA-256 (FIPS 180-4) of its canonical text;
-- and what is found of the other parts, exactly where their counts are right.
pub record IsGarbledAuditWith (c : Netlist) (g : GarblingParts) (offset : ℕ) (file : GarbledParts)
    (audit : GarbledAudit) : Type 0 where
  pub digest : IsTrue audit.digest ↔ (file.digest ≡ sha256 (canonical_text c))
  pub parts : MatchOption audit.parts (¬ AreCountsRight c file) (IsPartsAuditWith c g offset file)

-- The same of the garbling under a seed.
abbrev pub IsPartsAudit : Netlist → GarblingParts → List ℕ → GarbledParts → PartsAudit → Type 0
IsPartsAudit c g seed file audit = IsPartsAuditWith c g (offset_of seed) file audit

abbrev pub IsGarbledAudit : Netlist → GarblingParts → List ℕ → GarbledParts → GarbledAudit → Type 0
IsGarbledAudit c g seed file audit = IsGarbledAuditWith c g (offset_of seed) file audit

-- Nothing differs.
abbrev pub honest_audit : GarbledAudit
honest_audit = record {
  digest = true;
  parts = Some (record { rows = None; bits = None; entries = None });
}
