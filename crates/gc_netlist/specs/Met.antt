-- Where a reader is at the first fault: what its steps leave of the tokens, and how far back the place is.
use Rattle.std.specs.Prelude.{◌≡◌, ℕ, ◌+◌, ◌&&◌, ◌==◌, Bool, true, false, List, [], zero, suc, length, Option, Result, Ok, Err, if◌then◌else◌}
use Rattle.gc_netlist.specs.declared.limits.TheConstants.{MAX_VALUES}
use Rattle.gc_netlist.specs.declared.fault.ReadFault.{ReadFault}
use Rattle.gc_netlist.specs.declared.fault.ReadFault.TheVariants.{TooLarge, BadShape, UnknownOperation, BadConstant, WidthsExceedWires}
use Rattle.gc_netlist.specs.declared.gate.Operation.{Operation}
use Rattle.gc_netlist.specs.declared.gate.Operation.TheVariants.{Xor, And, Inv, Eq, Eqw}
use Rattle.gc_netlist.specs.FirstFault.{FirstFault}
use Rattle.gc_netlist.specs.Reading.{token_at, number_at, limited_at, numbers_at, check_read}
use Rattle.gc_netlist.specs.Place.{Spot, Token, Behind, End, place_of, IsLowest}

-- What a step leaves: what comes of its result, or the tokens at its fault.
abbrev pub left_after : {A : Type 0} → Result A ReadFault → List (List ℕ) → (A → List (List ℕ))
    → List (List ℕ)
left_after (Ok x) ts next = next x
left_after (Err e) ts next = ts

-- The tokens that are left where a number with a limit has a fault: it is read before its limit is looked at.
unfoldable pub limited_left : List (List ℕ) → List (List ℕ)
limited_left ts = left_after (number_at ts) ts (λ n. n.1)

-- Those where one of n numbers has a fault,
unfoldable pub numbers_left : ℕ → List (List ℕ) → List (List ℕ)
numbers_left zero ts = ts
numbers_left (suc n) ts = left_after (number_at ts) ts (λ next. numbers_left n next.1)

-- or the widths of a side,
unfoldable pub widths_left : List (List ℕ) → List (List ℕ)
widths_left ts = left_after (limited_at MAX_VALUES ts) (limited_left ts)
    (λ count. left_after (numbers_at count.0 [] count.1) (numbers_left count.0 count.1)
    (λ widths. widths.1))

-- or a gate after its counts 2 and 1,
unfoldable pub two_left : List (List ℕ) → List (List ℕ)
two_left ts = left_after (number_at ts) ts (λ a. left_after (number_at a.1) a.1
    (λ b. left_after (number_at b.1) b.1 (λ c. left_after (token_at c.1) c.1 (λ name. name.1))))

-- or after its counts 1 and 1,
unfoldable pub one_left : List (List ℕ) → List (List ℕ)
one_left ts = left_after (number_at ts) ts (λ a. left_after (number_at a.1) a.1
    (λ c. left_after (token_at c.1) c.1 (λ name. name.1)))

-- or a whole gate: where its counts are at fault, what comes after the first.
unfoldable pub gate_left : List (List ℕ) → List (List ℕ)
gate_left ts = left_after (number_at ts) ts (λ reads. left_after (number_at reads.1) reads.1
    (λ sets. if reads.0 == 2 && sets.0 == 1 then two_left sets.1
    else (if reads.0 == 1 && sets.0 == 1 then one_left sets.1 else reads.1)))

-- How many tokens before those that are left a fault is, where it is about no wire.
abbrev pub back_of : ReadFault → ℕ
back_of TooLarge = 1
back_of BadShape = 1
back_of UnknownOperation = 1
back_of WidthsExceedWires = 1
back_of BadConstant = 3
back_of _ = 0

-- A wire, and how many tokens before those that are left it stands.
abbrev pub WireBack : Type 0
WireBack = ℕ × ℕ

abbrev pub is_fault : Result (Unit {0}) ReadFault → Bool
is_fault (Ok u) = false
is_fault (Err e) = true

-- The wire at fault of a gate that was read: the first at fault that it reads, or else the wire that it sets.
module _ (wires : ℕ) (set : ℕ → Bool) where
  abbrev pub wire_of_one : ℕ → ℕ → WireBack
  wire_of_one a c = if is_fault (check_read wires set a) then (a, 3) else (c, 2)

  abbrev pub wire_of_two : ℕ → ℕ → ℕ → WireBack
  wire_of_two a b c =
      if is_fault (check_read wires set a) then (a, 4) else wire_of_one b c

  abbrev pub wire_at_fault : ℕ → Operation → WireBack
  wire_at_fault c (Xor a b) = wire_of_two a b c
  wire_at_fault c (And a b) = wire_of_two a b c
  wire_at_fault c (Inv a) = wire_of_one a c
  wire_at_fault c (Eq v) = (c, 2)
  wire_at_fault c (Eqw a) = wire_of_one a c

-- The place comes `back` tokens before the last `left` of all the tokens.
abbrev pub IsBack : Spot → ℕ → ℕ → ℕ → Type 0
IsBack (Token k) all left back = k + back + left ≡ all
IsBack (Behind k) all left back = k + left ≡ all
IsBack End all left back = Unit {0}

-- The first fault of the tokens is e, and a reader meets it with these left.
pub record IsMet (ts : List (List ℕ)) (e : ReadFault) (left : List (List ℕ)) (back : ℕ)
    (gate wire : Option ℕ) : Type 0 where
  pub first : FirstFault ts e
  pub lowest : IsLowest first
  pub in_gate : gate ≡ (place_of first).gate
  pub at_wire : wire ≡ (place_of first).wire
  pub spot : IsBack (place_of first).spot (length ts) (length left) back
