-- The numbers of the faults of opening a board.
use Rattle.std.specs.Prelude.{ℕ}
use Rattle.gc_workers.specs.declared.fault.OpenFault.{OpenFault}
use Rattle.gc_workers.specs.declared.fault.OpenFault.TheVariants.{Memory, NoTable}

abbrev pub code_of : OpenFault → ℕ
code_of Memory = 46
code_of NoTable = 49
