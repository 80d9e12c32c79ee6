-- What taking, finishing, counting down, putting back and freeing gates keep of a queue.
use Rattle.gc_store.proofs.Names.{◌≡◌, ◌≢◌, ℕ, ◌+◌, ◌-◌, ◌*◌, ◌^◌, ◌<◌, ◌≤◌, List, length, map, set, get_or, slice_get, Some, replicate, arith, common_steps, same_lists, length-map, slice_get_within, slice_get-get_or, get_or_from_slice_get, gets, count_by-le-length, length-replicate, GateState, Has, Adds, Removes, GateProgress, is_busy, freed, with_mark, IsQueue, one_place, slice_get-replicate, count_by-set, count_by-set_more, count_by-set_less, count_by-replicate, count_by-some}
use Rattle.gc_store.specs.declared.gate_state.GateState.TheVariants as mark
use Rattle.std.proofs.lemmas.List.{get_or-map}

module _ {s : GateProgress} {queued : List ℕ} {busy : ℕ} (q : IsQueue s queued busy) where
  -- ---- counting down: what is read of a countdown that is not 0 is n

  module _ (i n : ℕ) (positive : 0 < get_or s.countdowns i 0)
      (read : n ≡ get_or s.countdowns i n) where
    counted : slice_get s.countdowns i ≡ Some (n - 1 + 1)
    counted = grind (arith, common_steps, gets)

    -- a gate that isn't ready yet
    pub count_down_rest : n - 1 ≢ 0
        → IsQueue (record s { countdowns = set s.countdowns i (n - 1) }) queued busy
    count_down_rest some = grind (arith, counted, one_place)

    -- a gate that is ready now
    pub count_down_last : n - 1 ≡ 0 → (more : List ℕ) → Adds queued i more
        → IsQueue (record s { countdowns = set s.countdowns i (n - 1) }) more busy
    count_down_last none more added =
        let mark_at = slice_get-get_or s.marks i mark.Free in grind (arith, counted, one_place)

  -- ---- taking

  module _ (i : ℕ) (less : List ℕ) (gone : Removes queued i less) where
    pub take_keeps : IsQueue (with_mark s i mark.Claimed) less (busy + 1)
    take_keeps = grind (arith, one_place, count_by-set_more)

    pub busy_fits : busy + 1 < 2 ^ 32
    busy_fits = grind (arith, take_keeps, count_by-le-length is_busy (set s.marks i mark.Claimed))

  -- ---- finishing, and putting back

  module _ (i : ℕ) (at : slice_get s.marks i ≡ Some mark.Claimed) where
    pub finish_keeps : IsQueue (with_mark s i mark.Finished) queued busy
    finish_keeps = grind (arith, one_place, count_by-set)

    pub put_back_keeps : (more : List ℕ) → Adds queued i more
        → IsQueue (with_mark s i mark.Free) more (busy - 1)
    put_back_keeps more added = grind (arith, one_place, count_by-set_less)

    pub some_busy : 0 < busy
    some_busy = grind (arith, count_by-some)

-- before the opening counts the gates down none is ready
pub unopened : (n : ℕ) (countdowns queued : List ℕ) → n ≡ length countdowns → n < 2 ^ 32
    → ((i : ℕ) → i < length countdowns → 0 < get_or countdowns i 0) → n ≤ 64 * length queued
    → ((i : ℕ) → ¬ Has queued i)
    → IsQueue (record { marks = replicate n mark.Free; countdowns = countdowns }) queued 0
unopened n countdowns queued count few positive room empty =
    grind (arith, length-replicate, gets, slice_get_within, slice_get-replicate, count_by-replicate)

-- ---- freeing all claimed gates

-- from gate n on the claimed gates are free again
pub record IsFreedFrom (n : ℕ) (was now : List GateState) : Type 0 where
  pub count : length now ≡ length was
  pub before : (k : ℕ) → k < n → slice_get now k ≡ slice_get was k
  pub after : (k : ℕ) (m : GateState) → n ≤ k → slice_get was k ≡ Some m
      → slice_get now k ≡ Some (freed m)

pub freed_all : (n : ℕ) (was now : List GateState) → n ≡ 0 → IsFreedFrom n was now
    → now ≡ map freed was
freed_all n was now end h =
    same_lists now (map freed was) (grind (arith, length-map, h.count)) (λ k d within.
    let inside : k < length was = omega (arith, within, h.count) in
    let at = slice_get-get_or was k d inside in
    grind (arith, get_or_from_slice_get, h.after k, get_or-map freed was k d d))
