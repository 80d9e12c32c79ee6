use Rattle.std.proofs.Common.{◌≡◌, drop}
use Rattle.gc_fixtures.specs.MemFiles.{bytes_at}
use Rattle.gc_fixtures.proofs.mem_files.held_at.Given as goal

-- No file so far has the name.
abbrev pub invariant-loop-file : goal.invariant-loop-file
invariant-loop-file l = bytes_at l.files l.name ≡ bytes_at (drop l.file-index l.files) l.name
