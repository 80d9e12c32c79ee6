-- What is handed out.
use Rattle.std.specs.Prelude.{◌≢◌, ℕ, Bool, List}
use Rattle.gc_netlist.specs.Circuit.{Netlist, IsLawful}
use Rattle.gc_netlist.specs.Spelling.{Spells}
use Rattle.gc_depth.specs.Order.{IsOrdered}
use Rattle.gc_kept.specs.declared.fault.KeptFault.{KeptFault}
use Rattle.gc_kept.specs.declared.fault.KeptFault.TheVariants.{BadArgument}
use Rattle.gc_kept.specs.Circuit.{CircuitWith}
use Rattle.gc_kept.specs.Garbling.{GarblingWith, IsGarblingUnder, IsWantOfMemory}
use Rattle.gc_kept.specs.Labels.{IsFromLabels}
use Rattle.gc_job.specs.Job.{JobParts}
use Rattle.gc_kept.specs.Job.{IsBoundJob}
use Rattle.gc_kept.specs.declared.held.Held.TheVariants.{Circuit, Garbling, Job}
use Rattle.halfgates_c.specs.declared.slot.Slot.{Slot}
use Rattle.halfgates_c.specs.Holding.{Holds, IsHeldCircuit}

-- C's pointer is to a handle of the lawful circuit that the text spells, with its digest or without.
pub record HoldsCircuit (text : List ℕ) (has_digest : Bool) (slot : Slot) : Type 0 where
  pub circuit : Netlist
  pub lawful : IsLawful circuit
  pub spelled : Spells text circuit
  pub holds : IsHeldCircuit slot.held circuit has_digest

-- C's pointer is to a handle of this circuit, which has a digest exactly where this one has.
abbrev pub HoldsShared : CircuitWith → Slot → Type 0
HoldsShared c slot = Holds slot (Circuit c)

-- C's pointer is to a handle of this circuit in order of AND depth, which has a digest exactly where this one has.
pub record HoldsOrdered (c : CircuitWith) (slot : Slot) : Type 0 where
  pub ordered : Netlist
  pub order : IsOrdered c.netlist ordered
  pub holds : IsHeldCircuit slot.held ordered c.has_digest

-- C's pointer is to a handle of the garbling of the circuit under the seed.
pub record HoldsGarbling (c : CircuitWith) (seed : List ℕ) (slot : Slot) : Type 0 where
  pub garbling : GarblingWith
  pub garbled : IsGarblingUnder c seed garbling
  pub holds : Holds slot (Garbling garbling)

-- C's pointer is to a handle of this garbling.
abbrev pub HoldsThis : GarblingWith → Slot → Type 0
HoldsThis g slot = Holds slot (Garbling g)

-- The fault of garbling under many seeds: there are not as many pointers as seeds, or memory is missing.
abbrev pub HasManyFault : ℕ → ℕ → KeptFault → Type 0
HasManyFault seeds pointers BadArgument = seeds ≢ pointers
HasManyFault seeds pointers fault = IsWantOfMemory fault

-- C's pointer is to a handle of the garbling of the circuit from an offset and zero labels, its AND gates numbered from
-- `first` on.
pub record HoldsGarblingFrom (c : CircuitWith) (offset zero_labels : List ℕ) (first : ℕ)
    (slot : Slot) : Type 0 where
  pub garbling : GarblingWith
  pub garbled : IsFromLabels c offset zero_labels first garbling
  pub holds : Holds slot (Garbling garbling)

-- C's pointer is to a handle of the job that these files are bound to.
pub record HoldsJob (c : Netlist) (garbled labels lengths : List ℕ) (slot : Slot) : Type 0 where
  pub job : JobParts
  pub bound : IsBoundJob c garbled labels lengths job
  pub holds : Holds slot (Job job)
