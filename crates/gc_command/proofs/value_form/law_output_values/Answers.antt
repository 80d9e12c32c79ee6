use Rattle.gc_command.proofs.Names.{◌≡◌, Bool, List, length, Ok, value_of_text, shown_is_read, value_text}
use Rattle.gc_command.specs.declared.value_form.ValueForm.{ValueForm}
use Rattle.gc_command.specs.declared.value_form.ValueForm.TheVariants.{Binary, Hexadecimal}
use Rattle.gc_command.proofs.HexTextLemmas.{hex_text-read}
use Rattle.gc_command.proofs.value_form.law_output_values.Goals as goal

text-read : (form : ValueForm) (bits : List Bool)
    → value_of_text (value_text form bits) (length bits) ≡ Ok bits
text-read Binary bits = shown_is_read bits
text-read Hexadecimal bits = hex_text-read bits

pub returns : goal.returns
returns c = text-read
