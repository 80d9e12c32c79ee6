-- Reading tokens from left to right: what is read and the tokens that are left, or the first fault that is met.
use Rattle.std.specs.Prelude.{ℕ, zero, suc, ◌-◌, ◌&&◌, ◌||◌, ◌==◌, ◌++◌, Bool, true, false, List, [], ◌∷◌, sum, nat_lt, nat_le, Option, Some, None, Result, Ok, Err, if◌then◌else◌, bytes_eq, codes}
use Rattle.std.specs.List.{list_any, list_all, range_with_len}
use Rattle.gc_netlist.specs.declared.limits.TheConstants.{MAX_GATES, MAX_WIRES, MAX_VALUES}
use Rattle.gc_netlist.specs.declared.fault.ReadFault.{ReadFault}
use Rattle.gc_netlist.specs.declared.fault.ReadFault.TheVariants.{Truncated, BadNumber, TooLarge, BadShape, UnknownOperation, BadConstant, NoSuchWire, Unset, SetTwice, OutputUnset, TrailingTokens, WidthsExceedWires}
use Rattle.gc_netlist.specs.declared.gate.Operation.{Operation}
use Rattle.gc_netlist.specs.declared.gate.Operation.TheVariants.{Xor, And, Inv, Eq, Eqw}
use Rattle.gc_netlist.specs.declared.gate.Gate.{Gate}
use Rattle.gc_netlist.specs.Circuit.{Netlist, netlist_of}
use Rattle.gc_netlist.specs.Text.{number_of}

-- One step after another: the first fault ends it.
infixl 10 ◌>>=◌
abbrev pub ◌>>=◌ : {A B : Type 0} → Result A ReadFault → (A → Result B ReadFault)
    → Result B ReadFault
(Ok x) >>= f = f x
(Err e) >>= f = Err e

-- A token that is due.
abbrev pub token_at : List (List ℕ) → Result (List ℕ × List (List ℕ)) ReadFault
token_at [] = Err Truncated
token_at (t ∷ ts) = Ok (t, ts)

abbrev pub numbered : Option ℕ → List (List ℕ) → Result (ℕ × List (List ℕ)) ReadFault
numbered None rest = Err BadNumber
numbered (Some n) rest = Ok (n, rest)

-- A number that is due.
abbrev pub number_at : List (List ℕ) → Result (ℕ × List (List ℕ)) ReadFault
number_at [] = Err Truncated
number_at (t ∷ ts) = numbered (number_of t) ts

-- A number that is due and has a limit.
unfoldable pub limited_at : ℕ → List (List ℕ) → Result (ℕ × List (List ℕ)) ReadFault
limited_at limit ts = do
  n ← number_at ts
  if nat_le n.0 limit then Ok n else Err TooLarge

-- n numbers, after those that were read before
unfoldable pub numbers_at : ℕ → List ℕ → List (List ℕ) → Result (List ℕ × List (List ℕ)) ReadFault
numbers_at zero before ts = Ok (before, ts)
numbers_at (suc n) before ts = do
  next ← number_at ts
  numbers_at n (before ++ next.0 ∷ []) next.1

-- The widths of the values of one side: how many, each, and then their sum against the wires.
unfoldable pub widths_at : ℕ → List (List ℕ) → Result (List ℕ × List (List ℕ)) ReadFault
widths_at wires ts = do
  count ← limited_at MAX_VALUES ts
  widths ← numbers_at count.0 [] count.1
  if nat_le (sum widths.0) wires then Ok widths else Err WidthsExceedWires

-- The operation of this name that reads two wires.
unfoldable pub operation_of_two : List ℕ → ℕ → ℕ → Result Operation ReadFault
operation_of_two name a b =
    if bytes_eq name (codes "XOR") then Ok (Xor a b)
    else if bytes_eq name (codes "AND") then Ok (And a b)
    else if bytes_eq name (codes "INV") || bytes_eq name (codes "EQ") || bytes_eq name (codes "EQW")
    then Err BadShape
    else Err UnknownOperation

-- The constant of an EQ gate.
abbrev pub constant_of : ℕ → Result Operation ReadFault
constant_of v = if v == 0 then Ok (Eq false) else (if v == 1 then Ok (Eq true) else Err BadConstant)

-- The operation of this name that has one number before its wire set.
unfoldable pub operation_of_one : List ℕ → ℕ → Result Operation ReadFault
operation_of_one name a =
    if bytes_eq name (codes "INV") then Ok (Inv a)
    else if bytes_eq name (codes "EQ") then constant_of a
    else if bytes_eq name (codes "EQW") then Ok (Eqw a)
    else if bytes_eq name (codes "XOR") || bytes_eq name (codes "AND") then Err BadShape
    else Err UnknownOperation

-- A gate after its counts 2 and 1: the wires and the name come first, and are checked then.
unfoldable pub two_at : List (List ℕ) → Result (Gate × List (List ℕ)) ReadFault
two_at ts = do
  a ← number_at ts
  b ← number_at a.1
  c ← number_at b.1
  name ← token_at c.1
  operation ← operation_of_two name.0 a.0 b.0
  Ok (record { operation = operation; set = c.0 }, name.1)

-- A gate after its counts 1 and 1.
unfoldable pub one_at : List (List ℕ) → Result (Gate × List (List ℕ)) ReadFault
one_at ts = do
  a ← number_at ts
  c ← number_at a.1
  name ← token_at c.1
  operation ← operation_of_one name.0 a.0
  Ok (record { operation = operation; set = c.0 }, name.1)

-- A gate: how many wires it reads and sets, and then the rest.
unfoldable pub gate_at : List (List ℕ) → Result (Gate × List (List ℕ)) ReadFault
gate_at ts = do
  reads ← number_at ts
  sets ← number_at reads.1
  if reads.0 == 2 && sets.0 == 1 then two_at sets.1
      else (if reads.0 == 1 && sets.0 == 1 then one_at sets.1 else Err BadShape)

-- whether the wire is an input wire, or one of these gates sets it
abbrev pub is_set : ℕ → List Gate → ℕ → Bool
is_set inputs before w = nat_lt w inputs || list_any (λ (g : Gate). g.set == w) before

module _ (wires : ℕ) (set : ℕ → Bool) where
  -- A wire that is read: there is such a wire, and it is set.
  unfoldable pub check_read : ℕ → Result (Unit {0}) ReadFault
  check_read w = if nat_lt w wires then (if set w then Ok tt else Err Unset) else Err NoSuchWire

  -- A wire to be set: there is such a wire, and it isn't set yet.
  unfoldable pub check_set : ℕ → Result (Unit {0}) ReadFault
  check_set w = if nat_lt w wires then (if set w then Err SetTwice else Ok tt) else Err NoSuchWire

  -- each wire read, left to right
  unfoldable pub check_reads : Operation → Result (Unit {0}) ReadFault
  check_reads (Xor a b) = do
    first ← check_read a
    check_read b
  check_reads (And a b) = do
    first ← check_read a
    check_read b
  check_reads (Inv a) = check_read a
  check_reads (Eq v) = Ok tt
  check_reads (Eqw a) = check_read a

  -- the wires read, and then the wire set
  unfoldable pub check_gate : Gate → Result (Unit {0}) ReadFault
  check_gate g = do
    reads ← check_reads g.operation
    check_set g.set

-- n gates, after those that were read before. Each is checked by these.
unfoldable pub gates_at : ℕ → ℕ → ℕ → List Gate → List (List ℕ)
    → Result (List Gate × List (List ℕ)) ReadFault
gates_at wires inputs zero before ts = Ok (before, ts)
gates_at wires inputs (suc n) before ts = do
  g ← gate_at ts
  checked ← check_gate wires (is_set inputs before) g.0
  gates_at wires inputs n (before ++ g.0 ∷ []) g.1

-- Each output wire is set.
unfoldable pub check_outputs : Netlist → Result (Unit {0}) ReadFault
check_outputs c =
    let outputs = range_with_len (c.wires - sum c.output_widths) (sum c.output_widths) in
    if list_all (is_set (sum c.input_widths) c.gates) outputs then Ok tt else Err OutputUnset

-- No token is left.
abbrev pub check_end : List (List ℕ) → Result (Unit {0}) ReadFault
check_end [] = Ok tt
check_end (t ∷ ts) = Err TrailingTokens

-- The circuit that the tokens spell, or their first fault.
unfoldable pub circuit_of : List (List ℕ) → Result Netlist ReadFault
circuit_of ts = do
  count ← limited_at MAX_GATES ts
  wires ← limited_at MAX_WIRES count.1
  inputs ← widths_at wires.0 wires.1
  outputs ← widths_at wires.0 inputs.1
  gates ← gates_at wires.0 (sum inputs.0) count.0 [] outputs.1
  set ← check_outputs (netlist_of wires.0 inputs.0 outputs.0 gates.0)
  end ← check_end gates.1
  Ok (netlist_of wires.0 inputs.0 outputs.0 gates.0)
