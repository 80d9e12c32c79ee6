use Rattle.gc_command.proofs.Names.{◌≡◌, ℕ, ◌≤◌, ◌++◌, List, [], ◌∷◌, length, take, append_assoc, decimal, sym, ap, ◌∙◌, arith, take_all, line, numbers_after, line-widths, Name, words_of_widths}
use Rattle.gc_command.proofs.check.push_widths.Goals as goal

-- the last piece of a side's line
widths_done : (text name widths : List ℕ) (i : ℕ) → length widths ≤ i
    → (text ++ name ++ 32 ∷ decimal (length widths) ++ numbers_after (take i widths)) ++ 10 ∷ []
    ≡ text ++ line (Name name ∷ words_of_widths widths)
widths_done text name widths i done =
    let after = ap (λ l. text ++ name ++ 32 ∷ l) (line-widths widths) in
    rw (take_all i widths done) (simp append_assoc (sym (simp append_assoc at after)))

pub returns : goal.returns
returns g c = c.in_ok-push.ensures.items ∙ ap (λ t. t ++ 10 ∷ []) c.loop-width.invariant
    ∙ widths_done _ _ c.args.widths.now c.loop-width.width-index (omega arith)
