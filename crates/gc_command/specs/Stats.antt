-- The command `stats`: what it returns, and which fault it has.
use Rattle.std.specs.Prelude.{◌≡◌, ◌==◌, ℕ, ◌/◌, List, ◌++◌, codes, if◌then◌else◌}
use Rattle.gc_netlist.specs.Circuit.{Netlist}
use Rattle.gc_audit.specs.declared.figures.Stats.{Stats}
use Rattle.gc_audit.specs.Stats.{IsStats}
use Rattle.gc_command.specs.declared.fault.Fault.{Fault}
use Rattle.gc_command.specs.CircuitFile.{IsCircuit, HasCircuitFault}
use Rattle.gc_command.specs.Lines.{count_line}

-- How many AND gates there are for each AND depth, rounded down; 0 where there are none.
unfoldable pub level_width : Stats → ℕ
level_width stats = if stats.and_depth == 0 then 0 else stats.and / stats.and_depth

-- The lines of how many gates there are of each operation,
unfoldable pub gate_lines : Stats → List ℕ
gate_lines stats =
    count_line (codes "xor") stats.xor
    ++ count_line (codes "and") stats.and
    ++ count_line (codes "inv") stats.inv
    ++ count_line (codes "eq") stats.eq
    ++ count_line (codes "eqw") stats.eqw

-- of the depths,
unfoldable pub depth_lines : Stats → List ℕ
depth_lines stats =
    count_line (codes "depth") stats.depth
    ++ count_line (codes "and_depth") stats.and_depth

-- of how many AND gates there are for each AND depth,
unfoldable pub width_line : Stats → List ℕ
width_line stats = count_line (codes "level_width") (level_width stats)

-- and of the gates that nothing reads and of the sizes of garbled files,
unfoldable pub size_lines : Stats → List ℕ
size_lines stats =
    count_line (codes "unread") stats.unread
    ++ count_line (codes "garbled1") stats.garbled1
    ++ count_line (codes "garbled2") stats.garbled2

-- and all lines of a circuit's statistics.
abbrev pub stats_lines : Stats → List ℕ
stats_lines stats =
    gate_lines stats ++ depth_lines stats ++ width_line stats ++ size_lines stats

-- What `stats` returns: the lines of the statistics of the circuit that the bytes are.
pub record AnswersStats (bytes lines : List ℕ) : Type 0 where
  pub circuit : Netlist
  pub read : IsCircuit bytes circuit
  pub stats : Stats
  pub are_stats : IsStats circuit stats
  pub printed : lines ≡ stats_lines stats

-- When `stats` has which fault: those of the circuit's file alone, but that memory may run out.
abbrev pub HasStatsFault : List ℕ → Fault → Type 0
HasStatsFault bytes fault = HasCircuitFault bytes fault
