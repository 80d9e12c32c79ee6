-- The first fault of a text that spells no lawful circuit: what its first tokens spell, and what is wrong right after
-- or with the last of them (the Bristol Fashion page; the order of the faults is this project's profile).
use Rattle.std.specs.Prelude.{◌≡◌, ◌≢◌, ℕ, ◌<◌, ◌≤◌, ◌+◌, ◌⊎◌, ◌↔◌, ◌++◌, List, [], ◌∷◌, length, map, sum, None, Ok, Err, codes}
use Rattle.std.specs.List.{flat_map}
use Rattle.gc_netlist.specs.declared.limits.TheConstants.{MAX_GATES, MAX_WIRES, MAX_VALUES}
use Rattle.gc_netlist.specs.declared.fault.ReadFault.{ReadFault}
use Rattle.gc_netlist.specs.declared.fault.ReadFault.TheVariants.{Truncated, BadNumber, TooLarge, BadShape, UnknownOperation, BadConstant, NoSuchWire, Unset, SetTwice, OutputUnset, TrailingTokens, WidthsExceedWires}
use Rattle.gc_netlist.specs.declared.gate.Operation.{Operation}
use Rattle.gc_netlist.specs.declared.gate.Operation.TheVariants.{Xor, And, Inv, Eq, Eqw}
use Rattle.gc_netlist.specs.declared.gate.Gate.{Gate}
use Rattle.gc_netlist.specs.Circuit.{Netlist, output_wires, EachRead, IsSet, IsLawful}
use Rattle.gc_netlist.specs.Text.{tokens, number_of}
use Rattle.gc_netlist.specs.Spelling.{Word, Number, Name, SpellWords, Spells, words_of_gate, words_of_widths, words_of_circuit}
use Rattle.gc_netlist.specs.Reading.{circuit_of}

-- The circuit with no outputs.
abbrev pub without_outputs : Netlist → Netlist
without_outputs c = record c { output_widths = [] }

-- c is the beginning of a circuit of n gates.
pub record IsBegun (n : ℕ) (c : Netlist) : Type 0 where
  pub few_gates : n ≤ MAX_GATES
  pub so_far : length c.gates ≤ n
  -- Its gates so far are a lawful circuit, but for outputs that are still to be set.
  pub lawful : IsLawful (without_outputs c)
  pub few_outputs : length c.output_widths ≤ MAX_VALUES
  pub outputs_fit : output_wires c ≤ c.wires

-- The words of a circuit of n gates as far as the gates of c.
abbrev pub words_so_far : ℕ → Netlist → List Word
words_so_far n c = Number n ∷ Number c.wires
    ∷ (words_of_widths c.input_widths ++ words_of_widths c.output_widths
    ++ flat_map words_of_gate c.gates)

-- After these words, which are in order, the values of a side are due: after the two sizes the inputs, and after these
-- the outputs.
pub data SideDue (wires : ℕ) : List Word → Type 0 where
  input_side : (n : ℕ) → n ≤ MAX_GATES → wires ≤ MAX_WIRES →
      SideDue wires (Number n ∷ Number wires ∷ [])
  output_side : (n : ℕ) (widths : List ℕ) → n ≤ MAX_GATES → wires ≤ MAX_WIRES →
      length widths ≤ MAX_VALUES → sum widths ≤ wires →
      SideDue wires (Number n ∷ Number wires ∷ words_of_widths widths)

-- After these words, which are in order, a gate is due, c being the circuit so far.
pub data GateDue (c : Netlist) : List Word → Type 0 where
  next_gate : (n : ℕ) → IsBegun n c → length c.gates < n → GateDue c (words_so_far n c)

-- After these words, which are in order, a number is due that has a limit.
pub data LimitedDue : List Word → ℕ → Type 0 where
  number_of_gates : LimitedDue [] MAX_GATES
  number_of_wires : (n : ℕ) → n ≤ MAX_GATES → LimitedDue (Number n ∷ []) MAX_WIRES
  number_of_values : (wires : ℕ) (words : List Word) → SideDue wires words →
      LimitedDue words MAX_VALUES

-- The first count of a gate: it is how many numbers are between the two counts and the wire that the gate sets.
abbrev pub IsCount : ℕ → Type 0
IsCount r = (r ≡ 1) ⊎ (r ≡ 2)

-- After these numbers of a gate, which are in order, a number is due.
pub data GateNumberDue : List ℕ → Type 0 where
  first_count : GateNumberDue []
  second_count : (r : ℕ) → GateNumberDue (r ∷ [])
  wire_number : (r : ℕ) (numbers : List ℕ) → IsCount r → length numbers ≤ r →
      GateNumberDue (r ∷ 1 ∷ numbers)

-- After these words, which are in order, a number is due.
pub data NumberDue : List Word → Type 0 where
  due_with_limit : (words : List Word) (limit : ℕ) → LimitedDue words limit → NumberDue words
  due_as_width : (wires : ℕ) (words : List Word) (count : ℕ) (widths : List ℕ) →
      SideDue wires words → count ≤ MAX_VALUES → length widths < count →
      NumberDue (words ++ Number count ∷ map Number widths)
  due_in_gate : (c : Netlist) (words : List Word) (numbers : List ℕ) → GateDue c words →
      GateNumberDue numbers → NumberDue (words ++ map Number numbers)

-- After these words, which are in order, the name of an operation is due whose counts are r and 1.
pub data NameDue (r : ℕ) : List Word → Type 0 where
  due_as_name : (c : Netlist) (words : List Word) (numbers : List ℕ) → GateDue c words → IsCount r →
      length numbers ≡ r + 1 → NameDue r (words ++ map Number (r ∷ 1 ∷ numbers))

-- An operation of this name has the counts r and 1.
abbrev pub IsNamed : ℕ → List ℕ → Type 0
IsNamed r name =
    ((r ≡ 2) × ((name ≡ codes "XOR") ⊎ (name ≡ codes "AND")))
    ⊎ ((r ≡ 1) × ((name ≡ codes "INV") ⊎ ((name ≡ codes "EQ") ⊎ (name ≡ codes "EQW"))))

-- The wires that an operation reads, left to right.
abbrev pub wires_read : Operation → List ℕ
wires_read (Xor a b) = a ∷ b ∷ []
wires_read (And a b) = a ∷ b ∷ []
wires_read (Inv a) = a ∷ []
wires_read (Eq v) = []
wires_read (Eqw a) = a ∷ []

-- The first of these wires that isn't set is w.
abbrev pub IsFirstUnset : Netlist → List ℕ → ℕ → Type 0
IsFirstUnset c [] w = ⊥
IsFirstUnset c (a ∷ more) w = ((a ≡ w) × (IsSet c a → ⊥)) ⊎ (IsSet c a × IsFirstUnset c more w)

-- The tokens are in order up to some place, and this is the fault there.
pub data FirstFault (ts : List (List ℕ)) : ReadFault → Type 0 where
  -- The text ends where a number is due, or a name.
  no_number : (words : List Word) → NumberDue words → SpellWords ts words [] →
      FirstFault ts Truncated
  no_name : (r : ℕ) (words : List Word) → NameDue r words → SpellWords ts words [] →
      FirstFault ts Truncated
  -- The token where a number is due spells none.
  bad_number : (words : List Word) (token : List ℕ) (rest : List (List ℕ)) → NumberDue words →
      SpellWords ts words (token ∷ rest) → number_of token ≡ None → FirstFault ts BadNumber
  -- A number is above its limit.
  too_large : (words : List Word) (limit n : ℕ) (rest : List (List ℕ)) → LimitedDue words limit →
      SpellWords ts (words ++ Number n ∷ []) rest → limit < n → FirstFault ts TooLarge
  -- The widths of a side are together more than the wires.
  widths_exceed : (wires : ℕ) (words : List Word) (widths : List ℕ) (rest : List (List ℕ)) →
      SideDue wires words → length widths ≤ MAX_VALUES →
      SpellWords ts (words ++ words_of_widths widths) rest → wires < sum widths →
      FirstFault ts WidthsExceedWires
  -- The counts of a gate are neither 2 and 1 nor 1 and 1.
  bad_counts : (c : Netlist) (words : List Word) (r s : ℕ) (rest : List (List ℕ)) →
      GateDue c words → SpellWords ts (words ++ Number r ∷ Number s ∷ []) rest →
      (IsCount r × (s ≡ 1) → ⊥) → FirstFault ts BadShape
  -- No operation has this name,
  unknown : (r : ℕ) (words : List Word) (name : List ℕ) (rest : List (List ℕ)) → NameDue r words →
      SpellWords ts (words ++ Name name ∷ []) rest →
      ((k : ℕ) → IsNamed k name → ⊥) → FirstFault ts UnknownOperation
  -- or one with other counts has it.
  other_counts : (r k : ℕ) (words : List Word) (name : List ℕ) (rest : List (List ℕ)) →
      NameDue r words → SpellWords ts (words ++ Name name ∷ []) rest →
      IsNamed k name → k ≢ r → FirstFault ts BadShape
  -- The constant of an EQ gate is neither 0 nor 1.
  bad_constant : (c : Netlist) (words : List Word) (v w : ℕ) (rest : List (List ℕ)) →
      GateDue c words →
      SpellWords ts (words ++ Number 1 ∷ Number 1 ∷ Number v ∷ Number w ∷ Name (codes "EQ") ∷ [])
      rest → 1 < v → FirstFault ts BadConstant
  -- A gate reads a wire that isn't set, and the first such wire isn't below the number of wires, or is.
  no_wire_to_read : (c : Netlist) (words : List Word) (g : Gate) (w : ℕ) (rest : List (List ℕ)) →
      GateDue c words → SpellWords ts (words ++ words_of_gate g) rest →
      IsFirstUnset c (wires_read g.operation) w → c.wires ≤ w → FirstFault ts NoSuchWire
  unset : (c : Netlist) (words : List Word) (g : Gate) (w : ℕ) (rest : List (List ℕ)) →
      GateDue c words → SpellWords ts (words ++ words_of_gate g) rest →
      IsFirstUnset c (wires_read g.operation) w → w < c.wires → FirstFault ts Unset
  -- All wires that a gate reads are set, and the wire that it sets isn't below the number of wires, or is set already.
  no_wire_to_set : (c : Netlist) (words : List Word) (g : Gate) (rest : List (List ℕ)) →
      GateDue c words → SpellWords ts (words ++ words_of_gate g) rest →
      EachRead (IsSet c) g.operation → c.wires ≤ g.set → FirstFault ts NoSuchWire
  set_twice : (c : Netlist) (words : List Word) (g : Gate) (rest : List (List ℕ)) →
      GateDue c words → SpellWords ts (words ++ words_of_gate g) rest →
      EachRead (IsSet c) g.operation → IsSet c g.set → FirstFault ts SetTwice
  -- All gates are in order, and an output wire isn't set.
  output_unset : (c : Netlist) (w : ℕ) (rest : List (List ℕ)) → IsBegun (length c.gates) c →
      SpellWords ts (words_of_circuit c) rest →
      c.wires ≤ w + output_wires c → w < c.wires → (IsSet c w → ⊥) → FirstFault ts OutputUnset
  -- A token is left after the words of a lawful circuit.
  trailing : (c : Netlist) (token : List ℕ) (rest : List (List ℕ)) → IsLawful c →
      SpellWords ts (words_of_circuit c) (token ∷ rest) → FirstFault ts TrailingTokens

-- Each text spells one lawful circuit or has one first fault.
pub record ReadingLaw (text : List ℕ) : Type 0 where
  pub either : ((c : Netlist) × IsLawful c × Spells text c)
      ⊎ ((e : ReadFault) × FirstFault (tokens text) e)
  pub not_both : (c : Netlist) (e : ReadFault) → IsLawful c → Spells text c
      → FirstFault (tokens text) e → ⊥
  pub one_circuit : (c d : Netlist) → IsLawful c → Spells text c → IsLawful d → Spells text d
      → c ≡ d
  pub one_fault : (e f : ReadFault) → FirstFault (tokens text) e → FirstFault (tokens text) f
      → e ≡ f
  -- Reading from left to right gives that circuit or that fault.
  pub reads : (c : Netlist) → circuit_of (tokens text) ≡ Ok c ↔ IsLawful c × Spells text c
  pub faults : (e : ReadFault) → circuit_of (tokens text) ≡ Err e ↔ FirstFault (tokens text) e
