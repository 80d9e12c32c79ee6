-- Circuits from arrays of gates.
use Rattle.std.specs.Prelude.{◌≡◌, ◌≢◌, ◌⊎◌, ℕ, Bool, List, pos, Option, unwrap_or}
use Rattle.gc_netlist.specs.declared.fault.ReadFault.{ReadFault}
use Rattle.gc_netlist.specs.declared.fault.ReadFault.TheVariants as read
use Rattle.gc_netlist.specs.Fault.{code_of}
use Rattle.gc_netlist.specs.Circuit.{Netlist, IsLawful}
use Rattle.gc_netlist.specs.Canon.{canonical_text}
use Rattle.gc_circuit.specs.Arrays.{IsFound}
use Rattle.gc_kept.specs.declared.fault.KeptFault.{KeptFault}
use Rattle.gc_kept.specs.declared.fault.KeptFault.TheVariants.{Circuit, Memory}
use Rattle.halfgates_c.specs.declared.locate.TheConstants.{NONE}
use Rattle.halfgates_c.specs.declared.locate.Place.{Place}
use Rattle.halfgates_c.specs.declared.slot.Slot.{Slot}
use Rattle.halfgates_c.specs.Holding.{IsHeldCircuit}

-- C's pointer is to a handle of the lawful circuit whose canonical text this is, with its digest or without.
pub record HoldsCanonical (text : List ℕ) (has_digest : Bool) (slot : Slot) : Type 0 where
  pub circuit : Netlist
  pub lawful : IsLawful circuit
  pub canonical : canonical_text circuit ≡ text
  pub holds : IsHeldCircuit slot.held circuit has_digest

-- The place is that of a fault in this gate that is about this wire. It has no line and no column.
pub record IsArraysPlace (e : ReadFault) (gate wire : Option ℕ) (p : Place) : Type 0 where
  pub fault : p.fault ≡ pos (code_of e)
  pub in_gate : p.gate ≡ unwrap_or gate NONE
  pub at_wire : p.wire ≡ unwrap_or wire NONE
  pub no_line : p.line ≡ 0
  pub no_column : p.column ≡ 0

-- The place is that of the first fault of the text.
pub record IsPlaceOfFirst (text : List ℕ) (e : ReadFault) (p : Place) : Type 0 where
  pub gate : Option ℕ
  pub wire : Option ℕ
  pub found : IsFound text e gate wire
  pub place : IsArraysPlace e gate wire p

-- The fault is the first of the text, and this is its place; or memory is missing, and the place is as it was.
abbrev pub HasArraysFault : (text : List ℕ) (old new : Place) → KeptFault → Type 0
HasArraysFault text old new (Circuit e) =
    ((e ≢ read.Memory) × IsPlaceOfFirst text e new) ⊎ ((e ≡ read.Memory) × (new ≡ old))
HasArraysFault text old new Memory = new ≡ old
HasArraysFault text old new _ = ⊥
