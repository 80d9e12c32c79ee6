-- Value texts: how the bits of a value are written. The form is this project's own.
use Rattle.std.specs.Prelude.{◌≡◌, ℕ, ◌+◌, ◌-◌, ◌*◌, ◌/◌, ◌%◌, ◌≤◌, ◌==◌, ◌||◌, ◌↔◌, Bool, true, false, not, IsTrue, List, length, drop, map, slice_index, nat_eq, codes, unwrap_or, Result, Ok, Err, if◌then◌else◌}
use Rattle.std.specs.List.{starts_with, range_with_len, list_all, list_any}
use Rattle.std.specs.Int.{bit_at}
use Rattle.hex.specs.Hex.{hex_digit_value, is_hex_digit}
use Rattle.gc_circuit.specs.declared.value.ValueFault.{ValueFault}
use Rattle.gc_circuit.specs.declared.value.ValueFault.TheVariants.{Memory, BadDigit, WrongLength, SpareBits}

-- the number of a fault
abbrev pub code_of : ValueFault → ℕ
code_of Memory = 13
code_of BadDigit = 15
code_of WrongLength = 16
code_of SpareBits = 17

-- A text has one of two forms: a character `0` or `1` for each wire, in wire order, or two hexadecimal digits for
-- each byte of eight wires.
pub data ValueText : Type 0 where
  Binary : List ℕ → ValueText
  Hexadecimal : List ℕ → ValueText

-- a text that begins with `x` has the second form
abbrev pub form_of : List ℕ → ValueText
form_of text =
    if starts_with nat_eq text (codes "x") then Hexadecimal (drop 1 text) else Binary text

-- the number of bytes that a given number of bits takes
abbrev pub bytes_for : ℕ → ℕ
bytes_for bits = (bits + 7) / 8

-- whether the text has as many digits as a value of n wires
abbrev pub has_length : ℕ → ValueText → Bool
has_length n (Binary digits) = length digits == n
has_length n (Hexadecimal digits) = length digits == 2 * bytes_for n

-- the character of a bit: `0` or `1`
abbrev pub binary_digit : Bool → ℕ
binary_digit false = 48
binary_digit true = 49

-- whether a character is `0` or `1`
abbrev pub is_binary_digit : ℕ → Bool
is_binary_digit c = c == binary_digit false || c == binary_digit true

-- whether each character is a digit of the text's form
abbrev pub has_digits : ValueText → Bool
has_digits (Binary digits) = list_all is_binary_digit digits
has_digits (Hexadecimal digits) = list_all is_hex_digit digits

-- the value of a hexadecimal digit, in either case
abbrev pub digit_value : ℕ → ℕ
digit_value c = unwrap_or (hex_digit_value c) 0

-- byte k of hexadecimal digits, of which the first of two has the higher four bits
abbrev pub byte_at : List ℕ → ℕ → ℕ
byte_at digits k =
    16 * digit_value (slice_index digits (2 * k)) + digit_value (slice_index digits (2 * k + 1))

-- the lowest bits of a byte, the lowest first
abbrev pub low_bits : ℕ → ℕ → List Bool
low_bits byte count = map (λ i. bit_at byte i == 1) (range_with_len 0 count)

-- the bit of wire i: its own character, or bit i mod 8 of byte i / 8, where bit 0 is the lowest
abbrev pub wire_bit : ValueText → ℕ → Bool
wire_bit (Binary digits) i = slice_index digits i == binary_digit true
wire_bit (Hexadecimal digits) i = bit_at (byte_at digits (i / 8)) (i % 8) == 1

-- whether one of the last byte's bits that no wire uses is 1
abbrev pub has_spare_bit : ℕ → ValueText → Bool
has_spare_bit n t = list_any (wire_bit t) (range_with_len n (8 * bytes_for n - n))

-- the bits of n wires, or the first fault
abbrev pub value_of_form : ValueText → ℕ → Result (List Bool) ValueFault
value_of_form t n =
    if not (has_length n t) then Err WrongLength
    else if not (has_digits t) then Err BadDigit
    else if has_spare_bit n t then Err SpareBits
    else Ok (map (wire_bit t) (range_with_len 0 n))

-- the bits of a text as a value of n wires, or its first fault
abbrev pub value_of_text : List ℕ → ℕ → Result (List Bool) ValueFault
value_of_text text n = value_of_form (form_of text) n

-- The text is the value of n wires with these bits.
pub record IsValue (t : ValueText) (n : ℕ) (bits : List Bool) : Type 0 where
  pub right_length : IsTrue (has_length n t)
  pub all_digits : IsTrue (has_digits t)
  pub rest_zero : (i : ℕ) → n ≤ i → wire_bit t i ≡ false
  pub in_wire_order : bits ≡ map (wire_bit t) (range_with_len 0 n)

-- The fault is the first that the text has as a value of n wires. No text has the fault that memory ran out.
abbrev pub IsFirstFault : ValueText → ℕ → ValueFault → Type 0
IsFirstFault t n WrongLength = ¬ IsTrue (has_length n t)
IsFirstFault t n BadDigit = IsTrue (has_length n t) × ¬ IsTrue (has_digits t)
IsFirstFault t n SpareBits =
    IsTrue (has_length n t) × IsTrue (has_digits t) × ((i : ℕ) × (n ≤ i) × (wire_bit t i ≡ true))
IsFirstFault t n Memory = ⊥

-- Reading a text gives bits exactly where it is the value with these bits, and a fault exactly where that is its first.
pub record ValueTextLaw (text : List ℕ) (n : ℕ) : Type 0 where
  pub value : (bits : List Bool) → (value_of_text text n ≡ Ok bits) ↔ IsValue (form_of text) n bits
  pub fault : (e : ValueFault) → (value_of_text text n ≡ Err e) ↔ IsFirstFault (form_of text) n e
