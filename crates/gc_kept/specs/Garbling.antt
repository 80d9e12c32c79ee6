-- Garblings with their circuit, their offset, and the number of their first AND gate.
use Rattle.std.specs.Prelude.{◌≡◌, ◌≢◌, ◌⊎◌, ℕ, Bool, IsFalse, IsTrue, List, slice_index}
use Rattle.gc_netlist.specs.Circuit.{Netlist}
use Rattle.gc_label.specs.Seed.{offset_of}
use Rattle.gc_half.specs.Garbling.{GarblingParts, IsGarbled, IsGarbledFrom}
use Rattle.gc_kept.specs.declared.fault.KeptFault.{KeptFault}
use Rattle.gc_kept.specs.declared.fault.KeptFault.TheVariants.{BadArgument, Garbling, Memory, NoDigest}
use Rattle.gc_kept.specs.Circuit.{CircuitWith}

-- A garbling of the circuit with this offset, its AND gates numbered from `first` on; and whether the circuit had its
-- digest.
pub record GarblingWith : Type 0 where
  pub circuit : Netlist
  pub has_digest : Bool
  pub offset : ℕ
  pub first : ℕ
  pub garbling : GarblingParts

-- It is one: that from the zero labels that it has on the input wires.
abbrev pub IsGarblingWith : GarblingWith → Type 0
IsGarblingWith g =
    IsGarbledFrom g.offset (slice_index g.garbling.zero_labels) g.first g.circuit g.garbling

-- It is the garbling of this circuit under the seed.
pub record IsGarblingUnder (c : CircuitWith) (seed : List ℕ) (g : GarblingWith) : Type 0 where
  pub circuit : g.circuit ≡ c.netlist
  pub digest : g.has_digest ≡ c.has_digest
  pub offset : g.offset ≡ offset_of seed
  pub first : g.first ≡ 0
  pub garbled : IsGarbled c.netlist seed g.garbling

-- Memory is missing for a garbling, or for what is kept.
abbrev pub IsWantOfMemory : KeptFault → Type 0
IsWantOfMemory fault = (fault ≡ Garbling) ⊎ (fault ≡ Memory)

-- A garbling has garbled files where its AND gates are numbered from 0 on, and its circuit had its digest.
pub record HasFiles (g : GarblingWith) : Type 0 where
  pub from_zero : g.first ≡ 0
  pub digest : IsTrue g.has_digest

-- The fault of a garbling that has none: they are numbered from another number on, else there is no digest.
abbrev pub HasNoFiles : GarblingWith → KeptFault → Type 0
HasNoFiles g BadArgument = g.first ≢ 0
HasNoFiles g NoDigest = (g.first ≡ 0) × IsFalse g.has_digest
HasNoFiles g _ = ⊥
