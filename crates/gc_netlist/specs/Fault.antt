-- The numbers of the faults of reading.
use Rattle.std.specs.Prelude.{ℕ}
use Rattle.gc_netlist.specs.declared.fault.ReadFault.{ReadFault}
use Rattle.gc_netlist.specs.declared.fault.ReadFault.TheVariants.{Truncated, BadNumber, TooLarge, BadShape, UnknownOperation, BadConstant, NoSuchWire, Unset, SetTwice, OutputUnset, TrailingTokens, WidthsExceedWires, Memory}

abbrev pub code_of : ReadFault → ℕ
code_of Truncated = 1
code_of BadNumber = 2
code_of TooLarge = 3
code_of BadShape = 4
code_of UnknownOperation = 5
code_of BadConstant = 6
code_of NoSuchWire = 7
code_of Unset = 8
code_of SetTwice = 9
code_of OutputUnset = 10
code_of TrailingTokens = 11
code_of WidthsExceedWires = 12
code_of Memory = 13
