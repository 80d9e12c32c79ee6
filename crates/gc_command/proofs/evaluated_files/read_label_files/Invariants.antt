use Rattle.gc_command.proofs.Names.{◌≡◌, ℕ, ◌++◌, List, drop, map, LabelFileParts, FailedFiles, HasFailed, Fault, AreLabelFiles, HasLabelFilesFault}
use Rattle.gc_command.proofs.evaluated_files.read_label_files.Given as goal

-- What holds of the files that are left holds of all.
abbrev pub invariant-loop-name : goal.invariant-loop-name
invariant-loop-name g l =
    let bytes = g.F.Files.bytes l.fn.files in
    let failures = g.F.Files.failures l.fn.files in
    let names = map g.N.AsStr.text l.names in
    let rest = map g.N.AsStr.text (drop l.name-index l.names) in
    record {
      files : (left : List LabelFileParts) → AreLabelFiles bytes rest left
          → AreLabelFiles bytes names (l.labels.items ++ left);
      faults : (failed : FailedFiles) (fault : Fault)
          → HasLabelFilesFault bytes (HasFailed failures failed) rest fault
          → HasLabelFilesFault bytes (HasFailed failures failed) names fault;
      same : (n : List ℕ) → g.F.Files.bytes l.files n ≡ bytes n;
      counted : g.F.Files.failures l.files ≡ failures;
    }
