use Rattle.gc_kept.proofs.Names.{◌≡◌, flat_map, files_of, with_trailer, map}
use Rattle.gc_kept.proofs.GarblingsLemmas.{joined}
use Rattle.gc_kept.proofs.garblings.write_many.Goals.{After-deref-3}
use Rattle.gc_kept.proofs.garblings.write_many.Goals as goal

-- The bodies with their trailers are the files.
files : (c : After-deref-3) → flat_map with_trailer (map (λ b. b.now) c.deref-3.result.now)
    ≡ files_of c.args.version (map (λ g. g.now) c.args.garblings.now)
files c =
    rw (
      c.deref-3.ensures.value,
      c.in_ok-bodies-2.ensures.ok,
      c.deref.ensures.value,
      c.in_ok-bodies.ensures.ok,
    ) (joined c.args.version (map (λ g. g.now) c.args.garblings.now))

pub put_files-requires-clause-room : goal.put_files-requires-clause-room
put_files-requires-clause-room c =
    rw (files (goal.at.put_files-requires-clause-room c).After-deref-3)
    c.in_ok-has_files_room.ensures.ok

pub returns-clause-ok : goal.returns-clause-ok
returns-clause-ok c = record {
  from_zero = c.in_ok-have_files.ensures.numbers;
  digests = c.in_ok-have_files.ensures.digests;
  files = rw (files (goal.at.returns-clause-ok c).After-deref-3) at c.put_files.ensures;
}
