use Rattle.gc_kept.proofs.Names.{◌≡◌, ◌+◌, length, map, take, files_of}
use Rattle.gc_kept.proofs.garblings.has_files_room.Given as goal

abbrev pub invariant-loop-garbling : goal.invariant-loop-garbling
invariant-loop-garbling l =
    l.room + length (files_of l.version (map (λ g. g.now) (take l.garbling-index l.garblings)))
    ≡ length l.buffer
