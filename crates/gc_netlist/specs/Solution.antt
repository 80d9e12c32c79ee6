-- Values on all wires at once that meet an equation at each gate. Bits in the clear, zero labels of a garbling and
-- active labels of an evaluation are such values, each for a rule of its own.
use Rattle.std.specs.Prelude.{◌≡◌, ℕ, zero, suc, ◌<◌, ◌-◌, length, List, map, slice_get, Some, None, Option, if◌then◌else◌, ◌==◌}
use Rattle.std.specs.List.{range_with_len}
use Rattle.gc_netlist.specs.declared.gate.Gate.{Gate}
use Rattle.gc_netlist.specs.Circuit.{Netlist, input_wires, output_wires, EachRead}

-- A rule gives the value of the wire that a gate sets, from the values on all wires and the gate's place in the file.
-- The values solve the rule where input wires have the given values and the rule's equation holds at every gate.
pub record Solves {A : Type 0} (rule : (ℕ → A) → ℕ → Gate → A) (c : Netlist)
    (given values : ℕ → A) : Type 0 where
  pub inputs : (w : ℕ) → w < input_wires c → values w ≡ given w
  pub gates : (i : ℕ) (g : Gate) → slice_get c.gates i ≡ Some g → values g.set ≡ rule values i g

-- The rule looks at no wire but those that the gate reads.
abbrev pub IsLocal : {A : Type 0} → ((ℕ → A) → ℕ → Gate → A) → Type 0
IsLocal {A} rule = (u v : ℕ → A) (i : ℕ) (g : Gate) → EachRead (λ w. u w ≡ v w) g.operation
    → rule u i g ≡ rule v i g

-- the values on the output wires, in order
abbrev pub on_outputs : {A : Type 0} → Netlist → (ℕ → A) → List A
on_outputs c values = map values (range_with_len (c.wires - output_wires c) (output_wires c))

-- the values with that of wire w changed to x
abbrev pub put : {A : Type 0} → (ℕ → A) → ℕ → A → ℕ → A
put values w x u = if u == w then x else values u

abbrev pub put_gate : {A : Type 0} → ((ℕ → A) → ℕ → Gate → A) → (ℕ → A) → ℕ → Option Gate → ℕ → A
put_gate rule values i None = values
put_gate rule values i (Some g) = put values g.set (rule values i g)

-- the values after the first n gates, each computed from the values before it
unfoldable pub values_after : {A : Type 0} → ((ℕ → A) → ℕ → Gate → A) → Netlist → (ℕ → A) → ℕ
    → ℕ → A
values_after rule c given zero = given
values_after rule c given (suc n) =
    put_gate rule (values_after rule c given n) n (slice_get c.gates n)

-- The solution that computing gate by gate gives. On wires that are not set it has the given values.
abbrev pub solution : {A : Type 0} → ((ℕ → A) → ℕ → Gate → A) → Netlist → (ℕ → A) → ℕ → A
solution rule c given = values_after rule c given (length c.gates)
