use Rattle.gc_tokens.proofs.Names.{◌≡◌, ℕ, ◌≤◌, List, [], ◌∷◌, length, drop, slice_index, refl, ap, ◌∙◌, arith, codes, eq-eqb, ne_eqb, take_rest, tokens, token_at, operation_of_two}
use Rattle.gc_tokens.proofs.CutLemmas.{keeps_behind}
use Rattle.gc_tokens.proofs.line.operation_and_feed.Goals.{then-is_and, else-is_and}
use Rattle.gc_tokens.proofs.line.operation_and_feed.Goals as goal

-- a text that begins with three bytes and a line feed
line_begins : (text : List ℕ) (a b c : ℕ) → 4 ≤ length text →
    slice_index text 0 ∷ slice_index text 1 ∷ slice_index text 2 ∷ slice_index text 3 ∷ []
    ≡ a ∷ b ∷ c ∷ 10 ∷ [] → text ≡ a ∷ b ∷ c ∷ 10 ∷ drop 4 text
line_begins text a b c long name = grind arith

pub returns : goal.returns
unfolding operation_of_two tokens
returns c =
    let text = c.args.text.now in
    let long = c.in-len4-up.len_at_least in
    let name = c.same_four.ensures c.if-not-same_four.false ∙ c.name_and_feed.ensures in
    let feed : slice_index text 3 ≡ 10 = grind arith in
    let keeps = keeps_behind text 3 (omega arith) (rw feed refl) in
    rw (take_rest text 4) (elim c.if-is_and.branch [
      | then-is_and w ↦
          let first = eq-eqb (slice_index text 0) 65 w.if-is_and.true in
          let begins = line_begins text 65 78 68 long (rw first at name) in
          (codes "AND", ap (λ l. token_at (tokens l)) begins, rw w.operation-is refl, keeps)
      | else-is_and w ↦
          let other = ne_eqb (slice_index text 0) 65 w.if-is_and.false in
          let begins = line_begins text 88 79 82 long (rw other at name) in
          (codes "XOR", ap (λ l. token_at (tokens l)) begins, rw w.operation-is refl, keeps)
    ])
