-- Reports on label files.
use Rattle.std.specs.Prelude.{◌≡◌, ◌<◌, ◌≤◌, ◌++◌, ℕ, List, length, map, drop, min, pos}
use Rattle.gc_netlist.specs.Spelling.{bit_number}
use Rattle.std.specs.declared.alloc.Global.{Global}
use Rattle.gc_audit.specs.declared.labels.LabelsVerdict.{LabelsVerdict}
use Rattle.gc_audit.specs.declared.labels.LabelsVerdict.TheVariants.{Bits, WrongLabel, WrongWidth, NoValue}
use Rattle.gc_kept.specs.declared.fault.KeptFault.{KeptFault}
use Rattle.gc_kept.specs.declared.fault.KeptFault.TheVariants.{SmallBuffer}
use Rattle.gc_kept.specs.Garbling.{GarblingWith}
use Rattle.gc_kept.specs.Audit.{IsLabelsAuditOf, HasLabelsAuditFault}
use Rattle.halfgates_c.specs.declared.locate.TheConstants.{NONE}
use Rattle.halfgates_c.specs.declared.audit_labels.LabelsReport.{LabelsReport}

-- The report has this verdict, number of bits and wire.
pub record Reports (r : LabelsReport) (verdict count wire : ℕ) : Type 0 where
  pub verdict_is : r.verdict ≡ pos verdict
  pub count_is : r.count ≡ count
  pub wire_is : r.wire ≡ wire

-- The report says what is found of a label file.
abbrev pub SaysVerdict : {A : Type 0} → LabelsVerdict A → LabelsReport → Type 0
SaysVerdict NoValue r = Reports r 42 0 NONE
SaysVerdict WrongWidth r = Reports r 43 0 NONE
SaysVerdict (WrongLabel wire) r = Reports r 63 0 wire
SaysVerdict (Bits bits) r = Reports r 0 (min (length bits.items) NONE) NONE

-- The bits that are found stand at the front of a buffer, as bytes, and the rest of it stays.
abbrev pub AreFoundAt : {A : Type 0} → LabelsVerdict A → (old new : List ℕ) → Type 0
AreFoundAt (Bits bits) old new = (length bits.items ≤ length old)
    × (new ≡ map bit_number bits.items ++ drop (length bits.items) old)
AreFoundAt verdict old new = new ≡ old

-- There is no room for the bits that are found.
abbrev pub HasNoRoomFor : {A : Type 0} → LabelsVerdict A → (room : ℕ) → Type 0
HasNoRoomFor (Bits bits) room = room < length bits.items
HasNoRoomFor verdict room = ⊥

-- The report says what is found of the label file that the bytes are.
pub record IsReportOf (g : GarblingWith) (bytes : List ℕ) (verdict : LabelsVerdict Global)
    (r : LabelsReport) : Type 0 where
  pub found : IsLabelsAuditOf g bytes r.index verdict
  pub says : SaysVerdict verdict r

-- It does so, and the bits that are found stand in the buffer.
pub record IsLabelsReportOn (g : GarblingWith) (bytes old new : List ℕ) (r : LabelsReport)
    : Type 0 where
  pub verdict : LabelsVerdict Global
  pub report : IsReportOf g bytes verdict r
  pub bits : AreFoundAt verdict old new

-- It does so, and the buffer has no room for the bits.
pub record IsReportWithoutRoom (g : GarblingWith) (bytes : List ℕ) (room : ℕ) (r : LabelsReport)
    : Type 0 where
  pub verdict : LabelsVerdict Global
  pub report : IsReportOf g bytes verdict r
  pub small : HasNoRoomFor verdict room

-- The fault of bytes that are no label file, or of a buffer without room.
abbrev pub HasReportFault : GarblingWith → (bytes : List ℕ) → (room : ℕ) → LabelsReport
    → KeptFault → Type 0
HasReportFault g bytes room report SmallBuffer = IsReportWithoutRoom g bytes room report
HasReportFault g bytes room report fault = HasLabelsAuditFault bytes fault
