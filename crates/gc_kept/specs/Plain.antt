-- Evaluation in the clear, of bits as bytes.
use Rattle.std.specs.Prelude.{◌≡◌, ◌<◌, ◌≤◌, ℕ, Bool, List, length, map}
use Rattle.gc_netlist.specs.Circuit.{Netlist, input_wires, output_wires}
use Rattle.gc_netlist.specs.Spelling.{bit_number}
use Rattle.gc_circuit.specs.Meaning.{AreOutputs}
use Rattle.gc_kept.specs.declared.fault.KeptFault.{KeptFault}
use Rattle.gc_kept.specs.declared.fault.KeptFault.TheVariants.{SmallBuffer}
use Rattle.gc_kept.specs.Bits.{HasBitsFault}
use Rattle.gc_kept.specs.Files.{IsFileAt}

-- The buffer begins with the circuit's outputs for the input bits that these bytes are.
pub record ArePlainOutputs (c : Netlist) (inputs old new : List ℕ) : Type 0 where
  pub bits : List Bool
  pub count : length bits ≡ input_wires c
  pub inputs_are : inputs ≡ map bit_number bits
  pub found : List Bool
  pub outputs_are : IsFileAt (map bit_number found) old new
  pub meaning : AreOutputs c bits found

-- The fault of such an evaluation: the buffer has too little room, then that of the input bits. Memory may be missing
-- instead.
abbrev pub HasPlainBufferFault : Netlist → List ℕ → ℕ → KeptFault → Type 0
HasPlainBufferFault c inputs room SmallBuffer = room < output_wires c
HasPlainBufferFault c inputs room fault =
    (output_wires c ≤ room) × HasBitsFault inputs (input_wires c) fault
