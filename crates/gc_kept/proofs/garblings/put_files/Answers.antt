use Rattle.gc_kept.proofs.Names.{◌≡◌, ◌++◌, ℕ, List, Bor, [], flat_map, get_or, length, map, take, append_assoc, refl, ap, arith, length-append, get_or-map, sha256, with_trailer, ◌+◌, ◌<◌, ◌≤◌}
use Rattle.gc_kept.proofs.GarblingsLemmas.{bytes_more, count_within, put_after}
use Rattle.gc_kept.proofs.garblings.put_files.Goals as goal

abbrev none : Bor (List ℕ)
none = record { ref_ptr = (0, 0); now = [] }

module _ (bodies : List (Bor (List ℕ))) (i : ℕ) (inside : i < length bodies) where
  abbrev body : List ℕ
  body = (get_or bodies i none).now

  -- There is room for the body at a place and its trailer,
  fits : length (flat_map with_trailer (take i (map (λ b. b.now) bodies)))
      + (length body + length (sha256 body))
      ≤ length (flat_map with_trailer (map (λ b. b.now) bodies))
  fits = rw length-append at (count_within (λ b. b.now) bodies i none _ inside refl with_trailer)

  -- which is its digest.
  trailer : (trailers : List (List ℕ)) → trailers ≡ map (λ b. sha256 b.now) bodies
      → get_or trailers i [] ≡ sha256 body
  trailer trailers are = rw are (get_or-map (λ b. sha256 b.now) bodies i none [] inside)

pub put-trailer_place-requires : goal.put-trailer_place-requires
put-trailer_place-requires c =
    omega (arith, fits c.args.bodies.now c.loop-i.i c.loop-i-test.true)

pub put-place-requires : goal.put-place-requires
put-place-requires c =
    let bodies = c.args.bodies.now in
    let inside = c.loop-i-test.true in
    omega (
      arith,
      fits bodies c.loop-i.i inside,
      ap length (trailer bodies c.loop-i.i inside c.args.trailers.now c.requires.trailers),
    )

pub loop-i-preserved : goal.loop-i-preserved
loop-i-preserved c =
    let l = c.loop-i in
    let bodies = c.args.bodies.now in
    let inside = c.loop-i-test.true in
    let body = (get_or bodies l.i none).now in
    let digest = trailer bodies l.i inside c.args.trailers.now c.requires.trailers in
    let done = flat_map with_trailer (take l.i (map (λ b. b.now) bodies)) in
    let more = bytes_more (λ b. b.now) bodies l.i none _ inside refl with_trailer in
    let one = put_after done body _ l.files _ l.place l.invariant.place l.invariant.done
    c.put-trailer_place.ensures.bytes in
    record {
      done = rw (more, ← append_assoc done body (sha256 body), ← digest)
          (put_after (done ++ body) _ _ _ _ _ (rw length-append (omega arith)) one
          c.put-place.ensures.bytes);
      place = rw (more, length-append, length-append) (omega (arith, ap length digest));
      count = omega arith;
    }
