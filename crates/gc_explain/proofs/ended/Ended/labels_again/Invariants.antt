use Rattle.std.proofs.Common.{List, ◌++◌, drop, map}
use Rattle.gc_file.specs.LabelFile.{LabelFileParts}
use Rattle.gc_command.specs.Eval.{AreLabelFiles}
use Rattle.gc_explain.proofs.ended.Ended.labels_again.Given as goal

-- What holds of the files that are left holds of all.
abbrev pub invariant-loop-name : goal.invariant-loop-name
invariant-loop-name g l =
    let bytes = g.F.Files.bytes l.self.files.now in
    let text = g.N.AsStr.text in
    (left : List LabelFileParts) → AreLabelFiles bytes (map text (drop l.name-index l.names)) left
    → AreLabelFiles bytes (map text l.names) (l.labels.items ++ left)
