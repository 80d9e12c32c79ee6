-- The hash that garbling and evaluation share.
use Rattle.std.specs.Prelude.{ℕ, ◌+◌, ◌*◌, List, ◌++◌, take}
use Rattle.std.specs.Int.{w64, to_le_bytes}
use Rattle.sha2.specs.Sha256.{sha256}
use Rattle.gc_label.specs.Label.{label_of_bytes, bytes_of_label}

-- A tweak as 8 bytes, the lowest first.
unfoldable pub tweak_bytes : ℕ → List ℕ
tweak_bytes tweak = to_le_bytes w64 tweak

-- The hash of a label under a tweak: the first 16 bytes of SHA-256 (FIPS 180-4) of the label's 16 bytes followed by
-- the tweak's 8.
unfoldable pub hash : ℕ → ℕ → ℕ
hash label tweak = label_of_bytes (take 16 (sha256 (bytes_of_label label ++ tweak_bytes tweak)))

-- The hash that a circuit sees whose AND gates are numbered from `first` on: its k-th AND gate, whose tweaks are 2 * k
-- and 2 * k + 1, is hashed under 2 * (first + k) and 2 * (first + k) + 1. From 0 on it is the hash itself.
abbrev pub numbered_from : ℕ → (ℕ → ℕ → ℕ) → ℕ → ℕ → ℕ
numbered_from first hash label tweak = hash label (2 * first + tweak)
