-- Reports of audits.
use Rattle.std.specs.Prelude.{◌≡◌, ◌≤◌, ◌↔◌, ℕ, List, Option, Some, None, option_and_then, unwrap_or, is_some}
use Rattle.gc_netlist.specs.Spelling.{bit_number}
use Rattle.gc_file.specs.declared.parts.Version.{Version}
use Rattle.gc_file.specs.declared.parts.Version.TheVariants.{One, Two}
use Rattle.gc_audit.specs.declared.garbled.GarbledAudit.{GarbledAudit}
use Rattle.gc_audit.specs.declared.rows.RowDifference.{RowDifference}
use Rattle.gc_audit.specs.declared.rows.DifferingRows.{DifferingRows}
use Rattle.gc_audit.specs.declared.rows.DifferingRows.TheVariants.{Generator, Evaluator, Both}
use Rattle.gc_audit.specs.declared.entries.EntryDifference.{EntryDifference}
use Rattle.gc_audit.specs.Garbled.{honest_audit}
use Rattle.gc_kept.specs.Garbling.{GarblingWith}
use Rattle.gc_kept.specs.declared.audit.RowsAudit.{RowsAudit}
use Rattle.gc_kept.specs.Audit.{IsAuditOf, IsRowsAuditOf, honest_rows}
use Rattle.halfgates_c.specs.declared.locate.TheConstants.{NONE}
use Rattle.halfgates_c.specs.declared.audit.Report.{Report}
use Rattle.halfgates_c.specs.declared.audit.RowsReport.{RowsReport}

abbrev pub version_number : Version → ℕ
version_number One = 1
version_number Two = 2

-- Which of the two rows differ.
abbrev pub AreRowFlags : DifferingRows → ℕ → ℕ → Type 0
AreRowFlags Generator generator evaluator = (generator ≡ 1) × (evaluator ≡ 0)
AreRowFlags Evaluator generator evaluator = (generator ≡ 0) × (evaluator ≡ 1)
AreRowFlags Both generator evaluator = (generator ≡ 1) × (evaluator ≡ 1)

-- The fields of a report are those of the first row pair that differs, if there is one.
abbrev pub AreRowFields : Option RowDifference → (generator evaluator row gate wire : ℕ) → Type 0
AreRowFields None generator evaluator row gate wire =
    (row ≡ NONE) × (gate ≡ NONE) × (wire ≡ NONE) × (generator ≡ 0) × (evaluator ≡ 0)
AreRowFields (Some d) generator evaluator row gate wire =
    (row ≡ d.number) × (gate ≡ d.gate) × (wire ≡ d.wire) × AreRowFlags d.rows generator evaluator

-- The report has the first entry that differs, if there is one.
abbrev pub AreEntryFields : Option EntryDifference → Report → Type 0
AreEntryFields None r = (r.entry ≡ NONE) × (r.entry_colour ≡ 0)
AreEntryFields (Some d) r = (r.entry ≡ d.output) × (r.entry_colour ≡ bit_number d.colour)

-- The report says what is found of a garbled file of a version.
pub record IsReport (version : Version) (audit : GarbledAudit) (r : Report) : Type 0 where
  pub flag : r.honest ≤ 1
  pub honest : (r.honest ≡ 1) ↔ (audit ≡ honest_audit)
  pub version_is : r.version ≡ version_number version
  pub digest : r.digest ≡ bit_number audit.digest
  pub counts : r.counts ≡ bit_number (is_some audit.parts)
  pub rows : AreRowFields (option_and_then (λ parts. parts.rows) audit.parts)
      r.generator r.evaluator r.row r.gate r.wire
  pub bits : r.decode_bit ≡ unwrap_or (option_and_then (λ parts. parts.bits) audit.parts) NONE
  pub entries : AreEntryFields (option_and_then (λ parts. parts.entries) audit.parts) r

-- The report says what is found of the garbled file that the bytes are.
pub record IsReportOn (g : GarblingWith) (bytes : List ℕ) (r : Report) : Type 0 where
  pub version : Version
  pub audit : GarbledAudit
  pub found : IsAuditOf g bytes version audit
  pub report : IsReport version audit r

-- The report says what is found of row pairs and decode bits.
pub record IsRowsReport (audit : RowsAudit) (r : RowsReport) : Type 0 where
  pub flag : r.honest ≤ 1
  pub honest : (r.honest ≡ 1) ↔ (audit ≡ honest_rows)
  pub rows : AreRowFields audit.rows r.generator r.evaluator r.row r.gate r.wire
  pub bits : r.decode_bit ≡ unwrap_or audit.bits NONE

-- The report says what is found of the row pairs and the decode bits that the bytes are.
pub record IsRowsReportOn (g : GarblingWith) (bytes decode_bits : List ℕ) (r : RowsReport)
    : Type 0 where
  pub audit : RowsAudit
  pub found : IsRowsAuditOf g bytes decode_bits audit
  pub report : IsRowsReport audit r
