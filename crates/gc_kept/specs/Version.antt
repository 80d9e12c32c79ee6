-- The number of a version.
use Rattle.std.specs.Prelude.{ℕ, ◌==◌, if◌then◌else◌, Option, Some, None}
use Rattle.gc_file.specs.declared.parts.Version.{Version}
use Rattle.gc_file.specs.declared.parts.Version.TheVariants.{One, Two}

abbrev pub version_of : ℕ → Option Version
version_of number = if number == 1 then Some One else (if number == 2 then Some Two else None)
