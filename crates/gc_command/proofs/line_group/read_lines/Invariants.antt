use Rattle.gc_command.proofs.Names.{◌≡◌, ℕ, ◌++◌, List, drop, map, length, tokens, FailedFiles, LineFiles, AreReadInTurn}
use Rattle.gc_command.proofs.line_group.read_lines.Given as goal

-- What is read of the lines that are left is read of all.
abbrev pub invariant-loop-line : goal.invariant-loop-line
invariant-loop-line g l =
    let bytes = g.F.Files.bytes l.fn.files in
    let failures = g.F.Files.failures l.fn.files in
    let all = map (λ line. tokens line.now) l.lines in
    let rest = map (λ line. tokens line.now) (drop l.line-index l.lines) in
    record {
      read : (failed : FailedFiles) (left : List (LineFiles g.row.A.Denot))
          → AreReadInTurn bytes failures failed rest left
          → AreReadInTurn bytes failures failed all (l.read.items ++ left);
      count : length l.read.items ≡ l.line-index;
      same : (n : List ℕ) → g.F.Files.bytes l.files n ≡ bytes n;
      counted : g.F.Files.failures l.files ≡ failures;
    }
