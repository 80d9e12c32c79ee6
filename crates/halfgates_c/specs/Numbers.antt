-- The numbers of a circuit.
use Rattle.std.specs.Prelude.{◌≡◌, ◌<◌, ◌⊎◌, ℤ, ℕ, pos, List, length}
use Rattle.gc_netlist.specs.Circuit.{Netlist, and_count, input_wires, output_wires}
use Rattle.gc_kept.specs.Files.{IsFileAt}
use Rattle.halfgates_c.specs.declared.circuit.Numbers.{Numbers}

pub record AreNumbers (c : Netlist) (n : Numbers) : Type 0 where
  pub gates : n.gates ≡ length c.gates
  pub and_gates : n.and_gates ≡ and_count c
  pub wires : n.wires ≡ c.wires
  pub input_wires_of : n.input_wires ≡ input_wires c
  pub output_wires_of : n.output_wires ≡ output_wires c
  pub input_values : n.input_values ≡ length c.input_widths
  pub output_values : n.output_values ≡ length c.output_widths

-- The buffer begins with the numbers, or it has too little room: then the code is 61, and nothing is written.
abbrev pub Copies : ℤ → List ℕ → List ℕ → List ℕ → Type 0
Copies code numbers old new =
    ((code ≡ pos 0) × IsFileAt numbers old new)
    ⊎ ((code ≡ pos 61) × (length old < length numbers) × (new ≡ old))
