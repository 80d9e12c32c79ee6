-- Lists of garblings, and their files.
use Rattle.gc_kept.proofs.Names.{◌≡◌, ℕ, ◌+◌, ◌-◌, ◌<◌, ◌≤◌, List, ◌++◌, length, map, take, drop, get_or, flat_map, refl, sym, ◌∙◌, ap, append-nil, take-add, drop-drop, arith, All, length-append, length-map, map-append, take-map, get_or-map, flat_map-append, flat_map-map, length-flat_map-take, take-append_seam, drop-append-add, IsFileAt, GarblingWith, body_of, files_of, with_trailer, map_more}
use Rattle.gc_file.specs.declared.parts.Version.{Version}
use Rattle.gc_file.specs.GarbledFile.{garbled_file}

-- Things in a list, each of which has something, as a garbling its file. This one is at a place.
module _ {X Y : Type 0} (of : X → Y) (xs : List X) (i : ℕ) (d x : X) (within : i < length xs)
    (at : x ≡ get_or xs i d) where
  module _ (P : Y → Type 0) where
    -- It is one of all,
    pub one_of : All P (map of xs) → P (of x)
    one_of all = rw (get_or-map of xs i d (of x) within, ← at) at
        (all i (of x) (omega (arith, length-map xs of)))

  module _ {Z : Type 0} (bytes_in : Y → List Z) where
    -- whose bytes come after those of the things before it,
    pub bytes_more : flat_map bytes_in (take (i + 1) (map of xs))
        ≡ flat_map bytes_in (take i (map of xs)) ++ bytes_in (of x)
    bytes_more =
        rw (
          take-map of (i + 1) xs,
          take-map of i xs,
          map_more of xs i d within,
          ← at,
          flat_map-append bytes_in (map of (take i xs)),
          append-nil (bytes_in (of x)),
        ) refl

    -- and are among the bytes of all.
    pub count_within : length (flat_map bytes_in (take i (map of xs))) + length (bytes_in (of x))
        ≤ length (flat_map bytes_in (map of xs))
    count_within =
        rw (take-map of i xs, flat_map-map bytes_in of (take i xs), flat_map-map bytes_in of xs, at)
        (length-flat_map-take (λ y. bytes_in (of y)) xs i d within)

-- The next group of things has its own.
pub group_more : {X Y : Type 0} (of : X → Y) (xs : List X) (next end : ℕ) → next ≤ end
    → map of (take next xs) ++ map of (take (end - next) (drop next xs)) ≡ map of (take end xs)
group_more of xs next end up =
    let whole : end ≡ next + (end - next) = omega arith in
    sym (ap (λ n. map of (take n xs)) whole
    ∙ rw (take-add next (end - next) xs, map-append of (take next xs)) refl)

-- A piece is written after what is at the front of a buffer.
pub put_after : (done piece old mid new : List ℕ) (place : ℕ) → place ≡ length done
    → IsFileAt done old mid
    → new ≡ take place mid ++ piece ++ drop (place + length piece) mid
    → IsFileAt (done ++ piece) old new
put_after done piece old mid new place here before is =
    rw (
      is,
      here,
      before,
      take-append_seam done (drop (length done) old),
      drop-append-add done (drop (length done) old) (length piece),
      drop-drop (length piece) (length done) old,
      length-append done piece,
    ) refl

-- The bytes of garblings, each with its trailer, are their files.
pub joined : (version : Version) (gs : List GarblingWith)
    → flat_map with_trailer (map (body_of version) gs) ≡ files_of version gs
unfolding garbled_file
joined version gs = flat_map-map with_trailer (body_of version) gs
