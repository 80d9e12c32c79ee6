use Rattle.gc_command.proofs.Names.{ℕ, ◌++◌, List, [], ◌∷◌, codes, decimal, ◌≡◌, Bool, arith, from_bool, bit_number, append_assoc}
use Rattle.gc_command.proofs.audit_lines.push_entry_difference.Goals as goal

-- a bit as a number
bit_is : (b : Bool) → from_bool b ≡ bit_number b
bit_is b = grind arith

-- the parts of the line of an entry
entry_joined : (text a b i s : List ℕ) →
    (((text ++ (a ++ 32 ∷ b)) ++ 32 ∷ i) ++ 32 ∷ s) ++ 10 ∷ []
    ≡ text ++ ((a ++ 32 ∷ (b ++ 32 ∷ (i ++ 32 ∷ s))) ++ 10 ∷ [])
entry_joined text a b i s = simp append_assoc

pub returns : goal.returns
returns g c =
    rw (
      c.in_ok-push.ensures.items,
      c.in_ok-push_number-2.ensures,
      c.in_ok-push_number.ensures,
      c.in_ok-extend_from_slice.ensures.items,
      c.from.ensures,
      c.from-2.ensures,
      bit_is c.args.difference.colour,
    ) (entry_joined c.args.lines.now.items (codes "entries") (codes "wrong")
    (decimal c.args.difference.output) (decimal (bit_number c.args.difference.colour)))
