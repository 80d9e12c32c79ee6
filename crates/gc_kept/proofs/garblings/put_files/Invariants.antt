use Rattle.gc_kept.proofs.Names.{◌≡◌, flat_map, length, map, take, IsFileAt, with_trailer}
use Rattle.gc_kept.proofs.garblings.put_files.Given as goal

abbrev pub invariant-loop-i : goal.invariant-loop-i
invariant-loop-i l = record {
  done : IsFileAt (flat_map with_trailer (take l.i (map (λ b. b.now) l.bodies))) l.fn.files
      l.files;
  place : l.place ≡ length (flat_map with_trailer (take l.i (map (λ b. b.now) l.bodies)));
  count : length l.files ≡ length l.fn.files;
}
