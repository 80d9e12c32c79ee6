use Rattle.gc_command.proofs.Names.{◌≡◌, ℕ, ◌++◌, List, [], ◌∷◌, codes, decimal, append_assoc}
use Rattle.gc_command.specs.Audit.{rows_name}
use Rattle.gc_command.proofs.audit_lines.push_row_difference.Goals as goal

-- the parts of the line of a row pair
regrouped : (t a b k c g d w r e : List ℕ)
    → (((((t ++ (a ++ b)) ++ k) ++ c ++ g) ++ d ++ w) ++ r) ++ e
    ≡ t ++ ((a ++ (b ++ (k ++ (c ++ (g ++ (d ++ (w ++ r))))))) ++ e)
regrouped t a b k c g d w r e = simp append_assoc

row_joined : (text a b k c g d w r : List ℕ) →
    (((((text ++ (a ++ 32 ∷ b)) ++ 32 ∷ k) ++ 32 ∷ c ++ 32 ∷ g) ++ 32 ∷ d ++ 32 ∷ w) ++ 32 ∷ r)
    ++ 10 ∷ []
    ≡ text ++ ((a ++ 32 ∷ (b ++ 32 ∷ (k ++ 32 ∷ (c ++ 32 ∷ (g ++ 32 ∷ (d ++ 32 ∷ (w ++ 32 ∷ r)))))))
    ++ 10 ∷ [])
row_joined text a b k c g d w r =
    regrouped text a (32 ∷ b) (32 ∷ k) (32 ∷ c) (32 ∷ g) (32 ∷ d) (32 ∷ w) (32 ∷ r) (10 ∷ [])

pub returns : goal.returns
returns g c =
    rw (
      c.in_ok-push.ensures.items,
      c.in_ok-push_word.ensures,
      c.in_ok-push_field-2.ensures,
      c.in_ok-push_field.ensures,
      c.in_ok-push_number.ensures,
      c.in_ok-extend_from_slice.ensures.items,
      c.rows_name.ensures,
      c.from.ensures,
    ) (row_joined c.args.lines.now.items (codes "rows") (codes "wrong")
    (decimal c.args.difference.number) (codes "gate") (decimal c.args.difference.gate)
    (codes "wire") (decimal c.args.difference.wire) (rows_name c.args.difference.rows))
