-- The sentence on the first fault of a circuit's text.
use Rattle.std.specs.Prelude.{◌≡◌, ℕ, ◌≤◌, List, [], ◌++◌, Option, Some, None, codes, decimal, length}
use Rattle.gc_netlist.specs.declared.fault.ReadFault.{ReadFault}
use Rattle.gc_netlist.specs.declared.fault.ReadFault.TheVariants as read
use Rattle.gc_circuit.specs.declared.locate.Located.{Located}

-- the gate and the wire that the fault is about
abbrev pub subject : Option ℕ → Option ℕ → List ℕ
subject (Some gate) (Some wire) =
    codes "gate " ++ decimal gate ++ codes ", wire " ++ decimal wire ++ codes ": "
subject (Some gate) None = codes "gate " ++ decimal gate ++ codes ": "
subject None (Some wire) = codes "wire " ++ decimal wire ++ codes ": "
subject None None = []

-- what the fault means
abbrev pub meaning : ReadFault → List ℕ
meaning read.Truncated = codes "the text ends before the circuit does"
meaning read.BadNumber = codes "expected a number from 0 to 4294967295"
meaning read.TooLarge =
    codes "a circuit has at most 16777216 gates, 33554432 wires and 256 values of either side"
meaning read.BadShape =
    codes "the counts are neither 2 1 nor 1 1, or are not those of the operation"
meaning read.UnknownOperation = codes "the operation is none of XOR, AND, INV, EQ and EQW"
meaning read.BadConstant = codes "the constant of EQ is neither 0 nor 1"
meaning read.NoSuchWire = codes "the circuit has no such wire"
meaning read.Unset = codes "the gate reads a wire that is no input and that no earlier gate sets"
meaning read.SetTwice = codes "the gate sets an input wire, or a wire that an earlier gate sets"
meaning read.OutputUnset = codes "the output wire is no input, and no gate sets it"
meaning read.TrailingTokens = codes "there is more text after the last gate"
meaning read.WidthsExceedWires = codes "the widths add up to more than the number of wires"
meaning read.Memory = codes "memory ran out"

-- The sentence has both, and may end with a hint.
pub record IsSentence (l : Located) (sentence : List ℕ) : Type 0 where
  pub hint : List ℕ
  pub parts : sentence ≡ subject l.gate l.wire ++ meaning l.fault ++ hint
  pub short : length sentence ≤ 255
