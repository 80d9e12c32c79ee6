-- Where the label file of each input value is.
use Rattle.std.specs.Prelude.{◌≡◌, ℕ, ◌<◌, List, [], length, slice_get, slice_index_or, Option, Some, None, MatchOption}
use Rattle.gc_file.specs.LabelFile.{LabelFileParts}
use Rattle.gc_job.specs.Binding.{HasFile}

-- The file at this place is for this input value.
pub record IsFileFor (files : List LabelFileParts) (value place : ℕ) : Type 0 where
  pub file : LabelFileParts
  pub at : slice_get files place ≡ Some file
  pub index : file.index ≡ value

-- For each input value this is the place of a file for it, or there is none.
abbrev pub ArePlaces : List LabelFileParts → List (Option ℕ) → Type 0
ArePlaces files places =
    (value : ℕ) → value < length places →
    MatchOption (slice_index_or places value None) (HasFile files value → ⊥) (IsFileFor files value)

-- The labels of the file at a place, none where there is no such file.
abbrev pub labels_of_file : Option LabelFileParts → List ℕ
labels_of_file None = []
labels_of_file (Some file) = file.labels

abbrev pub labels_at : List LabelFileParts → Option ℕ → List ℕ
labels_at files None = []
labels_at files (Some place) = labels_of_file (slice_get files place)
