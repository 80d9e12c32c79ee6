-- What a circuit computes (the Bristol Fashion page).
use Rattle.std.specs.Prelude.{◌≡◌, ℕ, Bool, false, not, ◌&&◌, List, length, map, slice_index_or, if◌then◌else◌}
use Rattle.std.specs.List.{range_with_len}
use Rattle.gc_netlist.specs.declared.gate.Operation.{Operation}
use Rattle.gc_netlist.specs.declared.gate.Operation.TheVariants.{Xor, And, Inv, Eq, Eqw}
use Rattle.gc_netlist.specs.declared.gate.Gate.{Gate}
use Rattle.gc_netlist.specs.Circuit.{Netlist, IsSet}
use Rattle.gc_netlist.specs.Solution.{Solves, on_outputs}

abbrev pub xor : Bool → Bool → Bool
xor a b = if a then not b else b

-- the bit of the wire that an operation sets, from the bits on the wires
abbrev pub bit_of : (ℕ → Bool) → Operation → Bool
bit_of bits (Xor a b) = xor (bits a) (bits b)
bit_of bits (And a b) = bits a && bits b
bit_of bits (Inv a) = not (bits a)
bit_of bits (Eq v) = v
bit_of bits (Eqw a) = bits a

abbrev pub bit_rule : (ℕ → Bool) → ℕ → Gate → Bool
bit_rule bits i g = bit_of bits g.operation

-- An assignment: input wires have the bits x, and every gate's equation holds.
abbrev pub IsAssignment : Netlist → (ℕ → Bool) → (ℕ → Bool) → Type 0
IsAssignment c x bits = Solves bit_rule c x bits

-- the bits of a list, by place
abbrev pub bits_of : List Bool → ℕ → Bool
bits_of xs w = slice_index_or xs w false

-- The number of values is that of the circuit's input values, and each has its width.
abbrev pub Fits : Netlist → List (List Bool) → Type 0
Fits c values = map length values ≡ c.input_widths

-- The outputs for the input bits x: the bits on the output wires of an assignment.
pub record AreOutputs (c : Netlist) (x outputs : List Bool) : Type 0 where
  pub bits : ℕ → Bool
  pub assignment : IsAssignment c (bits_of x) bits
  pub last : outputs ≡ on_outputs c bits

-- The bits on all wires for the input bits x: those of an assignment, and false on a wire that is not set.
pub record AreWireBits (c : Netlist) (x all : List Bool) : Type 0 where
  pub bits : ℕ → Bool
  pub assignment : IsAssignment c (bits_of x) bits
  pub unset : (w : ℕ) → (IsSet c w → ⊥) → bits w ≡ false
  pub in_order : all ≡ map bits (range_with_len 0 c.wires)

-- For any input bits there is an assignment, and any two agree on the wires that are set:
-- so each wire that is set has one bit.
pub record AssignmentLaw (c : Netlist) (x : ℕ → Bool) : Type 0 where
  pub one : (bits : ℕ → Bool) × IsAssignment c x bits
  pub no_other : (u v : ℕ → Bool) → IsAssignment c x u → IsAssignment c x v
      → (w : ℕ) → IsSet c w → u w ≡ v w
