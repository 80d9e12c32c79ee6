-- Lines that commands print.
use Rattle.std.specs.Prelude.{ℕ, Bool, if◌then◌else◌, List, [], ◌∷◌, ◌++◌, map, take, drop, codes}
use Rattle.hex.specs.Hex.{encode_lower}
use Rattle.gc_netlist.specs.Spelling.{Number, Name}
use Rattle.gc_netlist.specs.Canon.{line}
use Rattle.gc_circuit.specs.Value.{binary_digit}
use Rattle.gc_file.specs.DecodeBits.{packed}
use Rattle.gc_command.specs.declared.value_form.ValueForm.{ValueForm}
use Rattle.gc_command.specs.declared.value_form.ValueForm.TheVariants.{Binary, Hexadecimal}

-- The line of a name and a number.
abbrev pub count_line : List ℕ → ℕ → List ℕ
count_line name n = line (Name name ∷ Number n ∷ [])

-- The form of output values with or without the flag `--hex`.
abbrev pub form_by_flag : Bool → ValueForm
form_by_flag hex = if hex then Hexadecimal else Binary

-- The bits of a value as a text: a character for each, or `x` and two hexadecimal digits for each eight of them begun,
-- packed as in files.
abbrev pub value_text : ValueForm → List Bool → List ℕ
value_text Binary bits = map binary_digit bits
value_text Hexadecimal bits = codes "x" ++ encode_lower (packed bits)

-- The bits of values of these widths, one value a line: its text, and a line feed.
abbrev pub output_lines : ValueForm → List ℕ → List Bool → List ℕ
output_lines form [] bits = []
output_lines form (width ∷ widths) bits =
    value_text form (take width bits) ++ 10 ∷ output_lines form widths (drop width bits)
