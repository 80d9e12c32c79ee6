-- Tables of a circuit: which gate sets each wire, and the AND number of each gate.
use Rattle.std.specs.Prelude.{◌≡◌, ℕ, ◌+◌, ◌<◌, List, length, slice_index, map}
use Rattle.std.specs.List.{range_with_len}
use Rattle.gc_netlist.specs.Circuit.{Netlist, IsSetBy, IsLawful, and_number, input_wires}

-- By wire after the input wires, the first of n gates that sets it, plus 1, and 0 where none does.
pub record AreSetters (c : Netlist) (n : ℕ) (setters : List ℕ) : Type 0 where
  pub count : input_wires c + length setters ≡ c.wires
  pub set : (i g : ℕ) → g < n → IsSetBy c (input_wires c + i) g → slice_index setters i ≡ g + 1
  pub setter : (i g : ℕ) → slice_index setters i ≡ g + 1 → IsSetBy c (input_wires c + i) g

-- The tables of a whole circuit, which is lawful.
pub record IsWired (c : Netlist) (setter_table number_table : List ℕ) : Type 0 where
  pub lawful : IsLawful c
  pub setters : AreSetters c (length c.gates) setter_table
  pub numbers : number_table ≡ map (and_number c) (range_with_len 0 (length c.gates))
