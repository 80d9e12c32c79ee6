-- The places that a line names, as texts.
use Rattle.std.specs.Prelude.{ℕ, List, ◌++◌, codes, decimal}
use Rattle.gc_circuit.specs.declared.locate.Located.{Located}

-- the place that is a whole file: `NAME: `
abbrev pub file_place : List ℕ → List ℕ
file_place name = name ++ codes ": "

-- a byte of it: `NAME: byte BYTE: `
abbrev pub byte_place : List ℕ → ℕ → List ℕ
byte_place name byte = file_place name ++ codes "byte " ++ decimal byte ++ codes ": "

-- a line of it: `NAME:LINE: `
abbrev pub line_place : List ℕ → ℕ → List ℕ
line_place name line = name ++ codes ":" ++ decimal line ++ codes ": "

-- a line and a column of it: `NAME:LINE:COLUMN: `
abbrev pub located_place : List ℕ → Located → List ℕ
located_place name l =
    name ++ codes ":" ++ decimal l.line ++ codes ":" ++ decimal l.column ++ codes ": "
