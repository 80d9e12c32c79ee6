-- The numbers of the faults of files.
use Rattle.std.specs.Prelude.{ℕ}
use Rattle.gc_file.specs.declared.fault.FileFault.{FileFault}
use Rattle.gc_file.specs.declared.fault.FileFault.TheVariants.{BadMagic, Truncated, Trailing, CountTooLarge, SpareBits, BadTrailer, Memory}

abbrev pub code_of : FileFault → ℕ
code_of BadMagic = 30
code_of Truncated = 31
code_of Trailing = 32
code_of CountTooLarge = 33
code_of SpareBits = 34
code_of BadTrailer = 35
code_of Memory = 36
