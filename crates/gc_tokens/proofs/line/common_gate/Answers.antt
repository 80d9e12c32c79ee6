use Rattle.gc_tokens.proofs.Names.{◌≡◌, ℕ, ◌-◌, List, length, Ok, take, drop, slice_index, true, take-append-drop, codes, refl, sym, ap, ◌∙◌, arith, get_or-take, take_rest, is_blank, tokens, value_of, number_at, gate_at, two_at}
use Rattle.gc_tokens.proofs.CutLemmas.{keeps_behind}
use Rattle.gc_tokens.proofs.line.common_gate.Goals as goal

-- A text that begins with `2 1 ` spells a gate that reads two wires, from its fifth byte on.
two_taken : (text : List ℕ) → take 4 text ≡ codes "2 1 " →
    gate_at (tokens text) ≡ two_at (tokens (drop 4 text))
unfolding gate_at value_of tokens
two_taken text front =
    ap (λ l. gate_at (tokens l)) (sym (take-append-drop 4 text)) ∙ rw front refl

pub returns : goal.returns
unfolding two_at
returns c =
    let text = c.args.text.now in
    let begins = c.if-not-begins_with_two_and_one.ensures refl in
    let a = c.in_ok-a.ensures in
    let b = c.in_ok-b.ensures in
    let set = c.in_ok-set.ensures in
    let operation = c.in_ok-operation.ensures in
    let blank : is_blank (slice_index text 3) ≡ true =
    rw (← get_or-take 4 text 3 0 (omega arith), begins.1) refl in
    let keeps = keeps_behind text 3 (omega (arith, begins.0)) blank in
    let line : List ℕ = take (length text - 4) (drop 4 text) in
    let first : number_at (tokens line) ≡ Ok (c.in_ok-a.a, tokens (drop c.in_ok-a.start line)) = a.1 in
    let behind = take_rest line c.in_ok-set.start in (
      two_taken text begins.1
          ∙ rw (← take_rest text 4, first, b.1, set.1, ← behind, operation.1, operation.2) refl,
      λ all cut.
          operation.3 all (rw behind (set.2 all (b.2 all (a.2 all (rw (take_rest text 4) (keeps all cut)))))),
    )
