-- The reads of a circuit's gates, and the list of those of each wire.
use Rattle.std.specs.Prelude.{◌≡◌, ℕ, ◌+◌, ◌*◌, ◌<◌, ◌≤◌, ◌⊎◌, ◌==◌, if◌then◌else◌, Bool, not, List, length, Option, Some, None, slice_get, slice_index}
use Rattle.gc_netlist.specs.declared.gate.Operation.{Operation}
use Rattle.gc_netlist.specs.declared.gate.Gate.{Gate}
use Rattle.gc_netlist.specs.Circuit.{Netlist, first_wire, second_wire}

-- The reads as lists: for each wire its first read, and for each read the next one of its wire.
pub record Links : Type 0 where
  pub firsts : List ℕ
  pub nexts : List ℕ

-- whether a read is of a wire that a test picks, as 1 or 0
abbrev pub picked : (ℕ → Bool) → Option ℕ → ℕ
picked test None = 0
picked test (Some w) = if test w then 1 else 0

-- How many reads of an operation are of wires that a test picks,
abbrev pub picked_reads : (ℕ → Bool) → Operation → ℕ
picked_reads test op = picked test (first_wire op) + picked test (second_wire op)

-- how many of wire w,
abbrev pub reads_of : ℕ → Operation → ℕ
reads_of w = picked_reads (λ v. v == w)

-- and how many of wires that are not known.
abbrev pub unknown_reads : (ℕ → Bool) → Operation → ℕ
unknown_reads known = picked_reads (λ w. not (known w))

-- How many reads there may be. Gate i has reads 2 * i and 2 * i + 1, if it reads a wire first and second.
abbrev pub read_count : Netlist → ℕ
read_count c = 2 * length c.gates

-- Read r is of wire w.
pub record IsReadOf (c : Netlist) (r w : ℕ) : Type 0 where
  pub place : ℕ
  pub gate : Gate
  pub at : slice_get c.gates place ≡ Some gate
  pub which : ((r ≡ 2 * place) × (first_wire gate.operation ≡ Some w))
      ⊎ ((r ≡ 2 * place + 1) × (second_wire gate.operation ≡ Some w))

-- Read r is the first read of wire w from read `start` on. Where there is none, r is past all reads.
pub record IsNextRead (c : Netlist) (w start r : ℕ) : Type 0 where
  pub after : start ≤ r
  pub none_between : (k : ℕ) → start ≤ k → k < r → ¬ IsReadOf c k w
  pub ends : r ≤ read_count c
  pub here : r < read_count c → IsReadOf c r w

-- From read `start` on, each wire has its first read, and each read the next read of its wire.
pub record IsLinkedFrom (c : Netlist) (start : ℕ) (firsts nexts : List ℕ) : Type 0 where
  pub wires : length firsts ≡ c.wires
  pub reads : length nexts ≡ read_count c
  pub first : (w : ℕ) → w < c.wires → IsNextRead c w start (slice_index firsts w)
  pub next : (r w : ℕ) → start ≤ r → IsReadOf c r w → IsNextRead c w (r + 1) (slice_index nexts r)

-- The reads of each wire are linked.
abbrev pub IsLinked : Netlist → List ℕ → List ℕ → Type 0
IsLinked c = IsLinkedFrom c 0
