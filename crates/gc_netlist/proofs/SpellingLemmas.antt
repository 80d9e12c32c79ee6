-- Words that are spelled, one list of words after another.
use Rattle.gc_netlist.proofs.CommonNames.{◌≡◌, ℕ, ◌+◌, ◌++◌, List, [], ◌∷◌, length, length-append, refl, arith, Word, SpellWords}

-- Words after words,
pub Spell-append : (ts us rest : List (List ℕ)) (ws vs : List Word) → SpellWords ts ws us →
    SpellWords us vs rest → SpellWords ts (ws ++ vs) rest
Spell-append ts us rest [] vs p q = rw p q
Spell-append [] us rest (w ∷ ws) vs p q = elim p [ ]
Spell-append (t ∷ ts) us rest (w ∷ ws) vs p q = (p.0, Spell-append ts us rest ws vs p.1 q)

-- and back.
pub Spell-split : (ts rest : List (List ℕ)) (ws vs : List Word) → SpellWords ts (ws ++ vs) rest →
    (us : List (List ℕ)) × SpellWords ts ws us × SpellWords us vs rest
Spell-split ts rest [] vs s = (ts, refl, s)
Spell-split [] rest (w ∷ ws) vs s = elim s [ ]
Spell-split (t ∷ ts) rest (w ∷ ws) vs s =
    let (us, first, second) = Spell-split ts rest ws vs s.1 in (us, (s.0, first), second)

-- Words take as many tokens.
pub Spell-length : (ts rest : List (List ℕ)) (ws : List Word) → SpellWords ts ws rest →
    length ts ≡ length ws + length rest
Spell-length ts rest [] s = rw s (omega arith)
Spell-length [] rest (w ∷ ws) s = absurd s
Spell-length (t ∷ ts) rest (w ∷ ws) s = omega (arith, Spell-length ts rest ws s.1)

pub Spell-lengths : (ts rest : List (List ℕ)) (ws vs : List Word) → SpellWords ts (ws ++ vs) rest →
    length ts ≡ length ws + length vs + length rest
Spell-lengths ts rest ws vs s =
    omega (arith, Spell-length ts rest (ws ++ vs) s, length-append ws vs)

-- the same words
pub same_words : (ts rest : List (List ℕ)) (ws vs : List Word) → ws ≡ vs → SpellWords ts vs rest →
    SpellWords ts ws rest
same_words ts rest ws vs h s = rw h s
