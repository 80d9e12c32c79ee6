-- Which kind of place a fault has.
use Rattle.gc_netlist.proofs.CommonNames.{◌≡◌, ◌≢◌, ℕ, ◌+◌, ◌<◌, ◌++◌, inl, inr, List, [], ◌∷◌, length, refl, arith, length-map, ReadFault, Truncated, OutputUnset, Netlist, Word, Number, Name, SpellWords, words_of_gate, words_of_widths, words_of_circuit, wires_read, IsFirstUnset, FirstFault, no_number, no_name, bad_number, too_large, widths_exceed, bad_counts, unknown, other_counts, bad_constant, no_wire_to_read, unset, no_wire_to_set, set_twice, output_unset, trailing, Spot, Token, Behind, End, before_unset, place_of}
use Rattle.gc_netlist.proofs.SpellingLemmas.{Spell-length, Spell-lengths}
use Rattle.gc_netlist.proofs.GateFaults.{words_of_constant, has_reads}

-- The end of the text, the end of a token, or a token of the text.
abbrev IsKind : ReadFault → Spot → ℕ → Type 0
IsKind Truncated spot all = spot ≡ End
IsKind OutputUnset spot all = (k : ℕ) × (spot ≡ Behind k) × (0 < k)
IsKind _ spot all = (k : ℕ) × (spot ≡ Token k) × (k < all)

few_before : (c : Netlist) (wires : List ℕ) (w : ℕ) (first : IsFirstUnset c wires w) →
    before_unset c wires w first < length wires
few_before c [] w h = absurd h
few_before c (a ∷ more) w (inl here) = omega arith
few_before c (a ∷ more) w (inr later) = omega (arith, few_before c more w later.1)

-- A token of words that are spelled is a token of the text.
inside : {k : ℕ} (ts rest : List (List ℕ)) (words ws : List Word) →
    SpellWords ts (words ++ ws) rest → k < length words + length ws →
    (j : ℕ) × (Token k ≡ Token j) × (j < length ts)
inside {k = k} ts rest words ws s below = (k, refl, omega (arith, Spell-lengths ts rest words ws s))

kind_of : (ts : List (List ℕ)) (e : ReadFault) (first : FirstFault ts e) →
    IsKind e (place_of first).spot (length ts)
kind_of ts e (no_number words due s) = refl
kind_of ts e (no_name r words due s) = refl
kind_of ts e (bad_number words t rest due s none) =
    (length words, refl, omega (arith, Spell-length ts (t ∷ rest) words s))
kind_of ts e (too_large words _ n rest _ s _) = inside ts rest words (Number n ∷ []) s (omega arith)
kind_of ts e (widths_exceed wires words widths rest side few s above) =
    inside ts rest words (words_of_widths widths) s (omega (arith, length-map widths Number))
kind_of ts e (bad_counts c words r k rest due s neither) =
    inside ts rest words (Number r ∷ Number k ∷ []) s (omega arith)
kind_of ts e (unknown _ words name _ _ s _) = inside ts _ words (Name name ∷ []) s (omega arith)
kind_of ts e (other_counts r k words name rest due s named other) =
    inside ts rest words (Name name ∷ []) s (omega arith)
kind_of ts e (bad_constant c words v w rest due s above) =
    inside ts rest words (words_of_constant v w) s (omega arith)
kind_of ts e (no_wire_to_read c words g w rest due s first above) =
    inside ts rest words (words_of_gate g) s
    (omega (arith, few_before c (wires_read g.operation) w first, has_reads g.set g.operation))
kind_of ts e (unset c words g w rest due s first below) =
    inside ts rest words (words_of_gate g) s
    (omega (arith, few_before c (wires_read g.operation) w first, has_reads g.set g.operation))
kind_of ts e (no_wire_to_set c words g rest due s reads above) =
    inside ts rest words (words_of_gate g) s (omega (arith, has_reads g.set g.operation))
kind_of ts e (set_twice c words g rest due s reads set) =
    inside ts rest words (words_of_gate g) s (omega (arith, has_reads g.set g.operation))
kind_of ts e (output_unset c _ _ _ _ _ _ _) = (length (words_of_circuit c), refl, omega arith)
kind_of ts e (trailing c t rest lawful s) =
    let all = Spell-length ts (t ∷ rest) (words_of_circuit c) s in
    (length (words_of_circuit c), refl, omega arith)

-- The text ends there,
pub spot_end : (ts : List (List ℕ)) (e : ReadFault) (first : FirstFault ts e) → e ≡ Truncated →
    (place_of first).spot ≡ End
spot_end ts e first is = let kind = kind_of ts e first in grind arith

-- a token ends there,
pub spot_behind : (ts : List (List ℕ)) (e : ReadFault) (first : FirstFault ts e) → e ≡ OutputUnset →
    (k : ℕ) × ((place_of first).spot ≡ Behind k) × (0 < k)
spot_behind ts e first is = let kind = kind_of ts e first in grind arith

-- or one begins there.
pub spot_token : (ts : List (List ℕ)) (e : ReadFault) (first : FirstFault ts e) → e ≢ Truncated →
    e ≢ OutputUnset → (k : ℕ) × ((place_of first).spot ≡ Token k) × (k < length ts)
spot_token ts e first more whole = let kind = kind_of ts e first in grind arith
