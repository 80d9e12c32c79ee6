use Rattle.gc_command.proofs.Names.{◌≡◌, ℕ, ◌++◌, List, take, AreLabelsFound}
use Rattle.gc_command.proofs.audit_lines.push_label_files.Given as goal

abbrev pub invariant-loop-file : goal.invariant-loop-file
invariant-loop-file g l = (added : List ℕ)
    × AreLabelsFound l.circuit l.compared.seed (take l.file-index l.files) l.all_dealt added
    × (l.lines.items ≡ l.fn.lines.items ++ added)
