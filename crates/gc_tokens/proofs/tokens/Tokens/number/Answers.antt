use Rattle.gc_tokens.proofs.Names.{◌≡◌, ◌<◌, ◌≤◌, length, slice_index, true, arith, take_rest, is_blank}
use Rattle.gc_tokens.proofs.CutLemmas.{cut_before}
use Rattle.gc_tokens.proofs.tokens.Tokens.number.Goals.{in-Some, in-None+in_ok-value-in-None}
use Rattle.gc_tokens.proofs.tokens.Tokens.number.Goals as goal

pub invariant_of-self : goal.invariant_of-self
invariant_of-self c =
    let s = c.skip_blanks-text.ensures.suffix in
    let text = c.skip_blanks-text.result.now in
    let n = c.match-short_number.value.1 in
    let ends : (n ≤ length text) × (n < length text → is_blank (slice_index text n) ≡ true) =
    elim c.match-short_number.branch [
      | in-Some w ↦ rw w.value-is (omega (arith, w.in-Some.ensures.0), λ _. w.in-Some.ensures.2)
      | in-None+in_ok-value-in-None w ↦
          rw w.value-is (w.in_ok-value-in-None.ensures.0, w.in_ok-value-in-None.ensures.2)
    ] in
    rw (take_rest text n) (cut_before c.self.inside.text.now c.self.inside.rest.now text s.0 n
    c.self.invariant s.1 s.2 ends.0 ends.1)
