use Rattle.std.proofs.Common.{◌≡◌, take}
use Rattle.gc_disk.proofs.seen_name.SeenName.of.Given as goal

abbrev pub invariant-loop-byte : goal.invariant-loop-byte
invariant-loop-byte l = l.seen ≡ take l.byte-index l.name
