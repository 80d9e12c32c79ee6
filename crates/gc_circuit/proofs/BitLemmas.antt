-- Bits on the wires.
use Rattle.gc_circuit.proofs.Names.{◌≡◌, ℕ, ◌+◌, ◌-◌, ◌<◌, ◌≤◌, sum, List, length, map, set, get_or, slice_get, Some, inl, refl, sym, ap, ◌∙◌, arith, Bool, false, replicate, ◌++◌, range_with_len, Gate, Netlist, IsLawful, input_wires, IsLocal, values_after, bit_of, bit_rule, bits_of, AreWireBits, after-unset, solution_solves, table_step, table_padded, after-zero, flat_map, get_or-map, get_or_past}
use Rattle.std.proofs.lemmas.List.Concat.{length-flat_map}
use Rattle.std.proofs.lemmas.List.Sums.{sum-map}
use Rattle.std.proofs.lemmas.Simd.{map-map}

pub bit_local : IsLocal bit_rule
bit_local u v i g h = grind arith

-- one more gate of the evaluation
pub bits_more : (c : Netlist) (x : ℕ → Bool) (bits : List Bool) (i : ℕ) (g : Gate) (b : Bool) →
    IsLawful c → bits ≡ map (values_after bit_rule c x i) (range_with_len 0 c.wires) →
    slice_get c.gates i ≡ Some g → b ≡ bit_of (bits_of bits) g.operation →
    set bits g.set b ≡ map (values_after bit_rule c x (i + 1)) (range_with_len 0 c.wires)
bits_more c x bits i g b lawful is at bit =
    table_step bit_rule bit_local c lawful x bits i g false b is at bit

-- the start of the evaluation
pub bits_start : (c : Netlist) (x bits : List Bool) → length x ≤ c.wires →
    bits ≡ x ++ replicate (c.wires - length x) false →
    bits ≡ map (values_after bit_rule c (bits_of x) 0) (range_with_len 0 c.wires)
bits_start c x bits fits is =
    is ∙ table_padded x c.wires false fits
    ∙ ap (λ f. map f (range_with_len 0 c.wires)) (sym (after-zero bit_rule c (bits_of x)))

-- the end of the evaluation
pub bits_end : (c : Netlist) (x all : List Bool) → IsLawful c → length x ≡ input_wires c →
    all ≡ map (values_after bit_rule c (bits_of x) (length c.gates)) (range_with_len 0 c.wires) →
    AreWireBits c x all
bits_end c x all lawful fits is = record {
  bits = values_after bit_rule c (bits_of x) (length c.gates);
  assignment = solution_solves bit_rule bit_local c lawful (bits_of x);
  unset = λ w free. after-unset bit_rule bit_local c lawful (bits_of x) (length c.gates) w free
      ∙ get_or_past x w false
      (let high : w < input_wires c → ⊥ = (λ low. free (inl low)) in omega arith);
  in_order = is;
}

-- how long the values are together, where they have these widths
pub length_joined : {X : Type 0} (f : X → List Bool) (xs : List X) (widths : List ℕ) →
    map length (map f xs) ≡ widths → length (flat_map f xs) ≡ sum widths
length_joined f xs widths h = rw (length-flat_map f xs, ← h, map-map, sum-map) refl

-- the width of one value
pub width_at : {X : Type 0} (f : X → List Bool) (xs : List X) (widths : List ℕ) (i : ℕ) (x : X) →
    map length (map f xs) ≡ widths → i < length xs → get_or xs i x ≡ x →
    length (f x) ≡ get_or widths i 0
width_at f xs widths i x h within at =
    rw (← h, map-map, get_or-map (λ y. length (f y)) xs i x 0 within, at) refl
