-- What a command returns where its file is written, and where it can't be.
use Rattle.gc_command.proofs.Names.{◌≡◌, ℕ, Bool, List, Option, Some, None, length, sym, ap, ◌∙◌, length-map-range_with_len, Netlist, value_text_law, Fault, IsInputValue, AreFew, IfSome, slice_get, IsCircuit, HasCause, IsGarbleInput, HasGarbleFault}
use Rattle.gc_command.specs.declared.fault.Fault.TheVariants as faults
use Rattle.gc_command.specs.Wrote.{HasWritten, IsUnwritten, wrote_line}
use Rattle.gc_command.specs.Deal.{IsDealInput, HasDealFault}
use Rattle.gc_command.specs.Order.{HasOrderFault}

-- What causes a fault of a command that writes a file causes that of one that also reads a file.
pub cause-writing : (fault : Fault) (Reading Writing : Type 0) → HasCause fault ⊥ Writing
    → HasCause fault Reading Writing
cause-writing faults.CannotRead Reading Writing has = absurd has
cause-writing fault Reading Writing has = has

-- the line of a file that holds these bytes
pub written-line : (file : List ℕ) (held : Option (List ℕ)) (lines : List ℕ) (count : ℕ)
    → lines ≡ wrote_line count → (held ≡ Some file) × (count ≡ length file)
    → HasWritten file held lines
written-line file held lines count line is =
    record { holds = is.0; printed = line ∙ ap wrote_line is.1 }

-- two facts of one known value, joined
pub IfSome-both : {T : Type 0} (o : Option T) (P Q R : T → Type 0)
    → ((x : T) → P x → Q x → R x) → IfSome o P → IfSome o Q → IfSome o R
IfSome-both None P Q R f p q = p
IfSome-both (Some x) P Q R f p q = f x p q

-- the bits that a text spells have the width of their value
pub input_value-width : (widths : List ℕ) (index : ℕ) (text : List ℕ) (bits : List Bool)
    → IsInputValue widths index text bits → slice_get widths index ≡ Some (length bits)
input_value-width widths index text bits is =
    let value = ((value_text_law text is.width).value bits).0 is.spelled in
    let width = ap length value.in_wire_order ∙ length-map-range_with_len _ 0 is.width in
    is.at ∙ ap Some (sym width)

pub deal-unwritten : {bytes seed_text : List ℕ} {index : ℕ} {text : List ℕ} {c : Netlist}
    {seed : List ℕ} {bits : List Bool} → IsDealInput bytes seed_text index text c seed bits
    → (fault : Fault) → IsUnwritten fault → HasDealFault bytes seed_text index text fault
deal-unwritten input faults.CannotWrite h = (_, (_, (_, input)))
deal-unwritten input faults.Memory h = tt
deal-unwritten input fault h = absurd h

pub order-unwritten : (bytes : List ℕ) (c : Netlist) → IsCircuit bytes c → (fault : Fault)
    → IsUnwritten fault → HasOrderFault bytes fault
order-unwritten bytes c is faults.CannotWrite h = (c, is)
order-unwritten bytes c is faults.Memory h = tt
order-unwritten bytes c is fault h = absurd h

pub garble-unwritten : (bytes seed_text : List ℕ) (workers : ℕ) (c : Netlist) (seed : List ℕ)
    → IsGarbleInput bytes seed_text c seed → AreFew workers → (fault : Fault) → IsUnwritten fault
    → HasGarbleFault bytes seed_text workers fault
garble-unwritten bytes seed_text workers c seed input few faults.CannotWrite h =
    ((c, (seed, input)), few)
garble-unwritten bytes seed_text workers c seed input few faults.Memory h = tt
garble-unwritten bytes seed_text workers c seed input few fault h = absurd h
