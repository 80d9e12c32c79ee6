-- Where a text is at fault.
use Rattle.std.specs.Prelude.{◌≡◌, ℕ, List, pos, Option, Some, None, MatchOption, unwrap_or}
use Rattle.gc_netlist.specs.declared.fault.ReadFault.TheVariants as read
use Rattle.gc_netlist.specs.Fault.{code_of}
use Rattle.gc_netlist.specs.Circuit.{Netlist, IsLawful}
use Rattle.gc_netlist.specs.Spelling.{Spells}
use Rattle.gc_netlist.specs.Place.{IsLocated}
use Rattle.gc_circuit.specs.declared.locate.Located.{Located}
use Rattle.gc_kept.specs.declared.fault.KeptFault.{KeptFault}
use Rattle.gc_kept.specs.declared.fault.KeptFault.TheVariants.{Circuit}
use Rattle.halfgates_c.specs.declared.locate.TheConstants.{NONE}
use Rattle.halfgates_c.specs.declared.locate.Place.{Place}

-- The place says what is found: no fault, or the fault with its line, column, gate and wire.
abbrev pub IsFaultPlace : Option Located → Place → Type 0
IsFaultPlace None p =
    (p.fault ≡ pos 0) × (p.line ≡ 0) × (p.column ≡ 0) × (p.gate ≡ NONE) × (p.wire ≡ NONE)
IsFaultPlace (Some l) p =
    (p.fault ≡ pos (code_of l.fault)) × (p.line ≡ l.line) × (p.column ≡ l.column)
    × (p.gate ≡ unwrap_or l.gate NONE) × (p.wire ≡ unwrap_or l.wire NONE)

-- The place says that the text spells a lawful circuit, or where its first fault is.
pub record IsPlaceIn (text : List ℕ) (p : Place) : Type 0 where
  pub found : Option Located
  pub meaning : MatchOption found ((c : Netlist) × IsLawful c × Spells text c)
      (λ l. IsLocated text l.fault l.line l.column l.gate l.wire)
  pub place : IsFaultPlace found p

-- Memory is missing.
abbrev pub IsTextMemory : KeptFault → Type 0
IsTextMemory fault = fault ≡ Circuit read.Memory
