-- Circuits that are kept, with their digest or without.
use Rattle.std.specs.Prelude.{◌≡◌, ◌≢◌, ◌≤◌, ℕ, Bool, IsFalse, IsTrue, List, length}
use Rattle.sha2.specs.Sha256.{sha256}
use Rattle.gc_netlist.specs.declared.fault.ReadFault.TheVariants as read
use Rattle.gc_netlist.specs.Circuit.{Netlist}
use Rattle.gc_netlist.specs.Canon.{canonical_text}
use Rattle.gc_netlist.specs.Text.{tokens}
use Rattle.gc_netlist.specs.FirstFault.{FirstFault}
use Rattle.gc_job.specs.declared.fault.BindFault.TheVariants as bind
use Rattle.gc_kept.specs.declared.fault.KeptFault.{KeptFault}
use Rattle.gc_kept.specs.declared.fault.KeptFault.TheVariants.{Binding, Circuit, Memory, NoDigest}

-- A circuit, and whether its digest was taken.
pub record CircuitWith : Type 0 where
  pub netlist : Netlist
  pub has_digest : Bool

-- The circuit has a digest, which is this: the SHA-256 (FIPS 180-4) of its canonical text.
pub record HasDigest (c : CircuitWith) (digest : List ℕ) : Type 0 where
  pub taken : IsTrue c.has_digest
  pub digest_is : digest ≡ sha256 (canonical_text c.netlist)

-- The fault of a circuit that has none.
abbrev pub HasNoDigest : CircuitWith → KeptFault → Type 0
HasNoDigest c fault = (fault ≡ NoDigest) × IsFalse c.has_digest

-- The fault of a text: its first fault, or memory is missing.
abbrev pub HasCircuitTextFault : List ℕ → KeptFault → Type 0
HasCircuitTextFault text (Circuit fault) = fault ≢ read.Memory → FirstFault (tokens text) fault
HasCircuitTextFault text Memory = Unit {0}
HasCircuitTextFault text _ = ⊥

-- The fault of an index at which there is no width of a value.
abbrev pub HasNoValue : List ℕ → ℕ → KeptFault → Type 0
HasNoValue widths index fault = (fault ≡ Binding bind.NoSuchValue) × (length widths ≤ index)
