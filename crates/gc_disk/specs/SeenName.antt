-- The bytes of a name that contracts alone read.
use Rattle.std.specs.Prelude.{ℕ, List, [], ◌∷◌, ◌++◌}
use Rattle.gc_disk.specs.declared.seen_name.Letters.{Letters, Start, Then'}

abbrev pub bytes_of : Letters → List ℕ
bytes_of Start = []
bytes_of (Then' shape before byte) = bytes_of before ++ byte.value ∷ []
