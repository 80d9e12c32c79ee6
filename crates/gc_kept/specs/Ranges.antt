-- The row pairs of a garbling in a range.
use Rattle.std.specs.Prelude.{ℕ, ◌+◌, ◌*◌, ◌<◌, ◌≤◌, List, length, flat_map, take, drop}
use Rattle.gc_file.specs.GarbledFile.{row_bytes}
use Rattle.gc_kept.specs.declared.fault.KeptFault.{KeptFault}
use Rattle.gc_kept.specs.declared.fault.KeptFault.TheVariants.{BadArgument, SmallBuffer}
use Rattle.gc_kept.specs.Files.{IsFileAt}
use Rattle.gc_kept.specs.Garbling.{GarblingWith}

-- There are `count` AND gates from AND gate `from` on, and the buffer begins with their row pairs.
pub record AreRowsAt (g : GarblingWith) (from count : ℕ) (old new : List ℕ) : Type 0 where
  pub within : from + count ≤ length g.garbling.rows
  pub buffer : IsFileAt (flat_map row_bytes (take count (drop from g.garbling.rows))) old new

-- The fault of such row pairs: there are not as many AND gates, then the buffer has too little room.
abbrev pub HasRangeFault : GarblingWith → ℕ → ℕ → ℕ → KeptFault → Type 0
HasRangeFault g from count room BadArgument = length g.garbling.rows < from + count
HasRangeFault g from count room SmallBuffer =
    (from + count ≤ length g.garbling.rows) × (room < 32 * count)
HasRangeFault g from count room _ = ⊥
