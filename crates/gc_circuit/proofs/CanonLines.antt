-- The first lines of a canonical text, as they are given to a sink.
use Rattle.gc_circuit.proofs.Names.{◌≡◌, ℕ, zero, suc, ◌+◌, ◌<◌, ◌≤◌, ◌++◌, List, [], ◌∷◌, length, map, take, drop, slice_get, append_assoc, take-append-drop, Some, refl, ap, ◌∙◌, arith, flat_map, common_steps, flat_map-append, length-map, drop_all, take_all, take-map, map-append, length-take-le, Gate, Netlist, Word, Number, words_of_gate, words_of_widths, line, lines_of_circuit, canonical_text}
use Rattle.std.proofs.lemmas.Option.{slice_get_within}
use Rattle.std.proofs.Math.Seq.{take-append-add}
use Rattle.gc_circuit.specs.FirstLines.{first_lines}

-- The lines of gates
abbrev pub lines_of_gates : List Gate → List ℕ
lines_of_gates gs = flat_map line (map words_of_gate gs)

-- The first lines are the header and the lines of the first gates.
first_are : (c : Netlist) (n : ℕ) →
    first_lines c n ≡ first_lines c 0 ++ lines_of_gates (take n c.gates)
unfolding first_lines
first_are c n =
    let header : List (List Word) = (Number (length c.gates) ∷ Number c.wires ∷ [])
    ∷ words_of_widths c.input_widths ∷ words_of_widths c.output_widths ∷ [] ∷ [] in
    ap (flat_map line) (take-append-add header (map words_of_gate c.gates) n
    ∙ ap (λ lines. header ++ lines) (take-map words_of_gate n c.gates))
    ∙ flat_map-append line header (map words_of_gate (take n c.gates))

header_regrouped : (h a b : List ℕ) → ((h ++ a) ++ b) ++ 10 ∷ [] ≡ h ++ (a ++ (b ++ 10 ∷ []))
header_regrouped h a b = simp append_assoc

-- The header is the lines before those of the gates.
pub header_lines : (sizes inputs outputs : List ℕ) (c : Netlist) →
    sizes ≡ line (Number (length c.gates) ∷ Number c.wires ∷ []) → inputs ≡ c.input_widths →
    outputs ≡ c.output_widths →
    ((sizes ++ line (words_of_widths inputs)) ++ line (words_of_widths outputs)) ++ 10 ∷ []
    ≡ first_lines c 0
unfolding first_lines
header_lines sizes inputs outputs c h i o = rw (h, i, o) (header_regrouped
    (line (Number (length c.gates) ∷ Number c.wires ∷ [])) (line (words_of_widths c.input_widths))
    (line (words_of_widths c.output_widths)))

two_parts : {X : Type 0} (l : List X) (i next : ℕ) → i ≤ next →
    take i l ++ drop i (take next l) ≡ take next l
two_parts l i next h =
    let first : take i (take next l) ≡ take i l = grind (arith, common_steps) in
    rw first at (take-append-drop i (take next l))

-- The lines of the gates up to the next place follow.
pub next_lines : (piece : List ℕ) (c : Netlist) (i next : ℕ) → i ≤ next →
    piece ≡ lines_of_gates (drop i (take next c.gates)) →
    first_lines c i ++ piece ≡ first_lines c next
next_lines piece c i next h is =
    let lines = ap lines_of_gates (two_parts c.gates i next h) in
    let both = rw (map-append, flat_map-append) at lines in
    rw (first_are c i, first_are c next, is, append_assoc, both) refl

-- The lines of all gates end the text.
pub all_lines : (c : Netlist) (n : ℕ) → length c.gates ≤ n → first_lines c n ≡ canonical_text c
unfolding first_lines canonical_text
all_lines c n done =
    ap (flat_map line) (take_all (4 + n) (lines_of_circuit c) (simp length-map (omega arith)))

-- The lines of gates from one place on are written from the last one to the first: none,
pub lines_none : (gs : List Gate) (to : ℕ) → to ≤ length gs →
    lines_of_gates (drop to (take to gs)) ≡ []
lines_none gs to h = rw (drop_all to (take to gs) (omega (arith, length-take-le to gs h))) refl

-- and one more.
pub lines_from : (gs : List Gate) (i to : ℕ) (g : Gate) → slice_get gs i ≡ Some g → i < to →
    lines_of_gates (drop i (take to gs))
    ≡ line (words_of_gate g) ++ lines_of_gates (drop (suc i) (take to gs))
lines_from [] i to g at below = let inside = slice_get_within [] i g at in absurd (omega arith)
lines_from (h ∷ gs) i zero g at below = absurd (omega arith)
lines_from (h ∷ gs) zero (suc to) g at below =
    let same : h ≡ g = cc in
    ap (λ k. line (words_of_gate k) ++ lines_of_gates (take to gs)) same
lines_from (h ∷ gs) (suc i) (suc to) g at below = lines_from gs i to g at (omega arith)
