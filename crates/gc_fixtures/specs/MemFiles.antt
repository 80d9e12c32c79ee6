-- What files in memory hold.
use Rattle.std.specs.Prelude.{ℕ, List, Option, Some, None, find, option_map, bytes_eq, if◌then◌else◌}
use Rattle.std.specs.Borrow.{Bor}
use Rattle.gc_disk.specs.Files.{FailedFiles}
use Rattle.gc_fixtures.specs.declared.mem_files.Limits.{Limits}

-- the bytes of the first file of a name
abbrev pub bytes_at : List (Bor (List ℕ) × Bor (List ℕ)) → List ℕ → Option (List ℕ)
bytes_at files name =
    option_map (λ file. file.1.now) (find (λ file. bytes_eq file.0.now name) files)

-- those of the file that was written, where it has this name, and else these
abbrev pub written_or : Option (List ℕ × List ℕ) → List ℕ → Option (List ℕ) → Option (List ℕ)
written_or None name held = held
written_or (Some file) name held = if bytes_eq file.0 name then Some file.1 else held

-- files in memory: the files, each with its name and its bytes; the one that was written, if one was; how much goes
-- well; and the files that have failed so far
pub record HeldFiles : Type 0 where
  pub files : List (Bor (List ℕ) × Bor (List ℕ))
  pub written : Option (List ℕ × List ℕ)
  pub limits : Limits
  pub failures : FailedFiles

abbrev pub held_bytes : HeldFiles → List ℕ → Option (List ℕ)
held_bytes f name = written_or f.written name (bytes_at f.files name)
