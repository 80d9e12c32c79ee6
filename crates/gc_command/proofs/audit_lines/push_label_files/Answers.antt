use Rattle.gc_command.proofs.Names.{◌≡◌, ℕ, ◌+◌, ◌<◌, ◌&&◌, Bool, List, length, take, slice_index_or, take_more, Netlist, LabelFileParts, IsLabelsFound, AreLabelsFound, no_value, wrong_width, wrong_label, dealt, more, is_dealt, [], append-nil, ◌++◌, append_assoc, sym, take_all, none, verdict_line}
use Rattle.gc_audit.specs.declared.labels.LabelsVerdict.{LabelsVerdict}
use Rattle.gc_audit.specs.declared.labels.LabelsVerdict.TheVariants.{NoValue, WrongWidth, WrongLabel, Bits}
use Rattle.gc_audit.specs.Labels.{IsLabelsVerdict}
use Rattle.gc_command.proofs.audit_lines.push_label_files.Goals as goal

module _ (c : Netlist) (seed : List ℕ) where
  -- What is found of a label file, by a verdict on it,
  found_of : {A : Type 0} (file : LabelFileParts) (verdict : LabelsVerdict A)
      → IsLabelsVerdict c seed file verdict
      → IsLabelsFound c seed file (is_dealt verdict) (verdict_line file.index verdict)
  found_of file NoValue is = no_value is
  found_of file WrongWidth is = wrong_width is.0 is.1 is.2
  found_of file (WrongLabel wire) is = wrong_label wire is.0 is.1
  found_of file (Bits bits) is = dealt bits.items is

  -- and of one file more.
  found_more : {A : Type 0} (files : List LabelFileParts) (i : ℕ) (file : LabelFileParts)
      (verdict : LabelsVerdict A) (all_dealt : Bool) (lines : List ℕ) → i < length files
      → file ≡ slice_index_or files i file
      → AreLabelsFound c seed (take i files) all_dealt lines → IsLabelsVerdict c seed file verdict
      → AreLabelsFound c seed (take (i + 1) files) (all_dealt && is_dealt verdict)
      (lines ++ verdict_line file.index verdict)
  found_more files i file verdict all_dealt lines below at before is =
      rw (take_more files i file below, ← at)
      (more (take i files) file all_dealt _ lines _ before (found_of file verdict is))

pub loop-file-init : goal.loop-file-init
loop-file-init g c = ([], none, sym (append-nil c.args.lines.now.items))

pub loop-file-preserved : goal.loop-file-preserved
loop-file-preserved g c =
    let file = c.file-item.result in
    let line = verdict_line file.index c.in-Ok.verdict in
    let before = c.loop-file.invariant in (
      before.0 ++ line,
      rw c.is_dealt-all_dealt.ensures (found_more _ _ c.as_slice-files.result.now c.loop-file.file-index file
          _ _ _ c.loop-file-test.true c.file-item.is before.1 c.in-Ok.ensures.verdict),
      rw (c.in_ok-push_verdict.ensures, c.index.ensures, before.2)
          (append_assoc c.args.lines.now.items before.0 line),
    )

pub returns : goal.returns
returns g c =
    let files = c.as_slice-files.result.now in
    let whole = take_all c.loop-file.file-index files c.loop-file-test.false in
    rw (whole, c.as_slice-files.ensures.value) at c.loop-file.invariant
