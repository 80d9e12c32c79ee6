-- The canonical text of a lawful circuit spells it.
use Rattle.gc_netlist.proofs.CommonNames.{◌≡◌, ◌≤◌, ℕ, suc, ◌+◌, ◌<◌, ◌^◌, List, [], ◌∷◌, map, sum, slice_get, append_assoc, Some, refl, arith, flat_map, AllByRecursion, sum_by-cons, MAX_WIRES, Operation, Gate, Netlist, EachRead, IsLawful, tokens, Number, Spells, words_of_operation, words_of_gate, words_of_circuit}
use Rattle.std.proofs.lemmas.List.Folds.{flat_map-map}
use Rattle.gc_netlist.specs.Canon.{lines_of_circuit, canonical_text, CanonicalLaw}
use Rattle.gc_netlist.proofs.Tables.{EachRead-below}
use Rattle.gc_netlist.proofs.WrittenLemmas.{IsPlain, lines_spelled}
use Rattle.gc_netlist.proofs.ReadingBack.{lawful_back}

-- The words of lawful circuits are plain: those of a gate,
operation_plain : (wires : ℕ) (op : Operation) (c : ℕ) → wires ≤ MAX_WIRES → c < wires →
    EachRead (λ w. w < wires) op → AllByRecursion IsPlain (words_of_operation c op)
operation_plain wires op c few small reads = grind arith

gates_plain : (wires : ℕ) (gs : List Gate) → wires ≤ MAX_WIRES →
    ((i : ℕ) (g : Gate) → slice_get gs i ≡ Some g →
    (g.set < wires) × EachRead (λ w. w < wires) g.operation) →
    AllByRecursion (AllByRecursion IsPlain) (map words_of_gate gs)
gates_plain wires [] few h = tt
gates_plain wires (g ∷ gs) few h =
    let first = h 0 g refl in
    let rest = gates_plain wires gs few (λ i. h (suc i)) in
    (operation_plain wires g.operation g.set few first.0 first.1, rest)

-- those of widths,
numbers_plain : (ns : List ℕ) → sum ns < 2 ^ 32 → AllByRecursion IsPlain (map Number ns)
numbers_plain [] h = tt
numbers_plain (n ∷ ns) h =
    let total : sum (n ∷ ns) ≡ n + sum ns = sum_by-cons (λ x. x) n ns in
    (omega arith, numbers_plain ns (omega arith))

-- and those of the sizes.
lines_plain : (c : Netlist) → IsLawful c →
    AllByRecursion (AllByRecursion IsPlain) (lines_of_circuit c)
lines_plain c lawful =
    let inputs = numbers_plain c.input_widths (omega (arith, lawful.inputs_fit)) in
    let outputs = numbers_plain c.output_widths (omega (arith, lawful.outputs_fit)) in
    let gates = gates_plain c.wires c.gates lawful.few_wires
    (λ i g at. (lawful.sets i g at, EachRead-below c lawful i g at)) in
    grind arith

canonical_spells : (c : Netlist) → IsLawful c → Spells (canonical_text c) c
unfolding canonical_text
canonical_spells c lawful =
    let same : words_of_circuit c ≡ flat_map (λ l. l) (lines_of_circuit c) =
    simp (flat_map-map, append_assoc) in
    rw same (lines_spelled (lines_of_circuit c) (lines_plain c lawful))

pub canonical_law : (c : Netlist) → IsLawful c → CanonicalLaw c
canonical_law c lawful =
    let back = λ (d : Netlist) (h : IsLawful d). lawful_back (tokens (canonical_text d)) [] d h
    (canonical_spells d h) in
    record {
      spells = canonical_spells c lawful;
      reads = back c lawful;
      one_circuit = λ d lawful_d same.
          let p = back c lawful in let q = back d lawful_d in cc;
    }
