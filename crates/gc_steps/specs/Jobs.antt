-- What the jobs of rounds owe.
use Rattle.std.specs.Prelude.{◌≡◌, ℕ, zero, suc, ◌<◌, ◌^◌, Option, Some}
use Rattle.gc_label.specs.Label.{low_half, high_half}
use Rattle.gc_job.specs.Job.{JobParts}
use Rattle.gc_job.specs.ActiveLabels.{active, set_of}

-- Half k of a label: half 0 is the low half, and half 1 the high half.
abbrev pub half_of : ℕ → ℕ → ℕ
half_of zero label = low_half label
half_of (suc k) label = high_half label

-- The number is half k of the active label of the wire that gate g sets, which is a label of 16 bytes.
abbrev pub IsRightHalf : JobParts → ℕ → ℕ → ℕ → Type 0
IsRightHalf job g k n =
    (active job (set_of job g) < 2 ^ 128) × (n ≡ half_of k (active job (set_of job g)))

module _ {J : Type 0} (right : J → ℕ → ℕ → ℕ → ℕ → Type 0)
    (job_at : J → ℕ → Option JobParts) where
  -- What is right in a round are the halves of the active labels of its job.
  pub record JobsLaw : Type 0 where
    pub gives : (w : J) (r : ℕ) (job : JobParts) → job_at w r ≡ Some job → (g k n : ℕ)
        → right w r g k n → IsRightHalf job g k n
    pub takes : (w : J) (r : ℕ) (job : JobParts) → job_at w r ≡ Some job → (g k n : ℕ)
        → IsRightHalf job g k n → right w r g k n
