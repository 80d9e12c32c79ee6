use Rattle.gc_eval.proofs.Names.{◌≡◌, ℕ, ◌*◌, ◌+◌, [], ◌∷◌, arith, sym, slots_items, state_of, total, only, only_same, only_other, total-append, range_with_len, map-range_with_len_more, word_is}
use Rattle.std.proofs.lemmas.List.{map-id}
use Rattle.gc_eval.proofs.active.Active.done.Goals as goal
use Rattle.gc_eval.proofs.active.Active.done.Goals.{then-word-eq-DONE, else-word-eq-DONE}

-- one number more
total-range : (f : ℕ → ℕ) (n : ℕ)
    → total f (range_with_len 0 (n + 1)) ≡ total f (range_with_len 0 n) + f n
total-range f n =
    let more = map-range_with_len_more (λ (k : ℕ). k) 0 n n (omega arith) in
    rw (simp map-id at more) (omega (arith, total-append f (range_with_len 0 n) (n ∷ [])))

pub loop-gate-preserved : goal.loop-gate-preserved
loop-gate-preserved g c =
    let gate = c.loop-gate.gate in
    let words = slots_items c.args.self.now.closed.words in
    let more = rw (word_is words (3 * gate) _ c.word.ensures)
    at (total-range (λ k. only 2 (state_of words k)) gate) in
    let i = c.loop-gate.invariant in
    elim c.if-word-eq-DONE.branch [
      | then-word-eq-DONE w ↦
          let one = only_same 2 _ (sym w.if-word-eq-DONE.true) in
          (omega (arith, more, i.0, w.done-is, one), omega (arith, i.1, w.done-is))
      | else-word-eq-DONE w ↦
          let none = only_other 2 _ (λ e. w.if-word-eq-DONE.false (sym e)) in
          (omega (arith, more, i.0, w.done-is, none), omega (arith, i.1, w.done-is))
    ]
