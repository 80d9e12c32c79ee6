-- Where the first fault of a text is: the byte, its line and its column, the gate that is read there, and the wire.
use Rattle.std.specs.Prelude.{◌≡◌, ℕ, suc, ◌<◌, ◌≤◌, ◌+◌, ◌-◌, ◌==◌, false, List, [], ◌∷◌, length, take, fold, count_by, slice_index, Option, Some, None, if◌then◌else◌}
use mathlib.Core.Logic.{inl, inr}
use Rattle.gc_netlist.specs.declared.fault.ReadFault.{ReadFault}
use Rattle.gc_netlist.specs.declared.gate.Gate.{Gate}
use Rattle.gc_netlist.specs.Circuit.{Netlist, output_wires, IsSet}
use Rattle.gc_netlist.specs.Text.{tokens, is_blank}
use Rattle.gc_netlist.specs.Spelling.{Word, words_of_gate, words_of_circuit}
use Rattle.gc_netlist.specs.FirstFault.{NumberDue, due_with_limit, due_as_width, due_in_gate, NameDue, due_as_name, wires_read, IsFirstUnset, FirstFault, no_number, no_name, bad_number, too_large, widths_exceed, bad_counts, unknown, other_counts, bad_constant, no_wire_to_read, unset, no_wire_to_set, set_twice, output_unset, trailing}

-- A place in a text, by its tokens: the first byte of the token after k tokens, the end of the last of k tokens, or the
-- end of the text.
pub data Spot : Type 0 where
  Token : ℕ → Spot
  Behind : ℕ → Spot
  End : Spot

-- The gate, counted from 0, is that which is read there, and the wire is that which the fault is about.
pub record Place : Type 0 where
  pub spot : Spot
  pub gate : Option ℕ
  pub wire : Option ℕ

abbrev pub place : Spot → Option ℕ → Option ℕ → Place
place spot gate wire = record { spot = spot; gate = gate; wire = wire }

-- the gate in which a number is due,
abbrev pub gate_of_number : {words : List Word} → NumberDue words → Option ℕ
gate_of_number (due_with_limit words limit due) = None
gate_of_number (due_as_width wires words count widths side few more) = None
gate_of_number (due_in_gate c words numbers gate at) = Some (length c.gates)

-- or a name
abbrev pub gate_of_name : {r : ℕ} {words : List Word} → NameDue r words → Option ℕ
gate_of_name (due_as_name c words numbers gate count len) = Some (length c.gates)

-- how many of the wires come before the first that isn't set
abbrev pub before_unset : (c : Netlist) (wires : List ℕ) (w : ℕ) → IsFirstUnset c wires w → ℕ
before_unset c [] w h = 0
before_unset c (a ∷ more) w (inl here) = 0
before_unset c (a ∷ more) w (inr later) = suc (before_unset c more w later.1)

-- the token of a gate's wire set, which comes before its operation, where the gate comes after k tokens
abbrev pub set_token : ℕ → Gate → ℕ
set_token k g = k + (length (words_of_gate g) - 2)

-- The place of a fault: of a number or a name that is due the token that stands there, of counts the first, of a
-- constant and of a wire its number, of widths the last.
abbrev pub place_of : {ts : List (List ℕ)} {e : ReadFault} → FirstFault ts e → Place
place_of (no_number words due s) = place End (gate_of_number due) None
place_of (no_name r words due s) = place End (gate_of_name due) None
place_of (bad_number words t rest due s none) =
    place (Token (length words)) (gate_of_number due) None
place_of (too_large words limit n rest due s above) = place (Token (length words)) None None
place_of (widths_exceed wires words widths rest side few s above) =
    place (Token (length words + length widths)) None None
place_of (bad_counts c words r k rest due s neither) =
    place (Token (length words)) (Some (length c.gates)) None
place_of (unknown r words name rest due s none) =
    place (Token (length words)) (gate_of_name due) None
place_of (other_counts r k words name rest due s named other) =
    place (Token (length words)) (gate_of_name due) None
place_of (bad_constant c words v w rest due s above) =
    place (Token (length words + 2)) (Some (length c.gates)) None
place_of (no_wire_to_read c words g w rest due s first above) =
    place (Token (length words + 2 + before_unset c (wires_read g.operation) w first))
    (Some (length c.gates)) (Some w)
place_of (unset c words g w rest due s first below) =
    place (Token (length words + 2 + before_unset c (wires_read g.operation) w first))
    (Some (length c.gates)) (Some w)
place_of (no_wire_to_set c words g rest due s reads above) =
    place (Token (set_token (length words) g)) (Some (length c.gates)) (Some g.set)
place_of (set_twice c words g rest due s reads set) =
    place (Token (set_token (length words) g)) (Some (length c.gates)) (Some g.set)
place_of (output_unset c w rest whole s last below free) =
    place (Behind (length (words_of_circuit c))) None (Some w)
place_of (trailing c t rest lawful s) = place (Token (length (words_of_circuit c))) None None

-- Of the output wires that aren't set the wire is the lowest.
abbrev pub IsLowest : {ts : List (List ℕ)} {e : ReadFault} → FirstFault ts e → Type 0
IsLowest (output_unset c w rest whole s last below free) =
    (v : ℕ) → c.wires ≤ v + output_wires c → v < w → IsSet c v
IsLowest _ = Unit {0}

-- The place comes after the first `offset` bytes of the text.
abbrev pub IsSpot : List ℕ → Spot → ℕ → Type 0
IsSpot text (Token k) offset = (tokens (take offset text) ≡ take k (tokens text))
    × (offset < length text) × (is_blank (slice_index text offset) ≡ false)
IsSpot text (Behind k) offset = (tokens (take offset text) ≡ take k (tokens text))
    × (0 < offset) × (offset ≤ length text) × (is_blank (slice_index text (offset - 1)) ≡ false)
IsSpot text End offset = offset ≡ length text

-- the line, counted from 1, of what comes after these bytes: byte 10 ends a line
abbrev pub line_after : List ℕ → ℕ
line_after before = 1 + count_by (λ b. b == 10) before

-- and its column, counted from 1, a byte a column
abbrev pub column_after : List ℕ → ℕ
column_after before = fold (λ column b. if b == 10 then 1 else column + 1) 1 before

-- The first fault of the text is e, and there it is.
pub record IsLocated (text : List ℕ) (e : ReadFault) (line column : ℕ) (gate wire : Option ℕ)
    : Type 0 where
  pub first : FirstFault (tokens text) e
  pub lowest : IsLowest first
  pub in_gate : gate ≡ (place_of first).gate
  pub at_wire : wire ≡ (place_of first).wire
  pub offset : ℕ
  pub spot : IsSpot text (place_of first).spot offset
  pub in_line : line ≡ line_after (take offset text)
  pub in_column : column ≡ column_after (take offset text)
