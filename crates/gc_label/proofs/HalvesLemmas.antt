-- The two halves of a label are the label's.
use Rattle.std.proofs.Common.{◌≡◌, ℕ, ◌^◌, ◌<◌, ◌++◌, take, drop, ◌∙◌, arith}
use Rattle.std.specs.Int.{w64, to_le_bytes}
use Rattle.gc_label.specs.Label.{label_of_bytes, bytes_of_label, low_half, high_half, label_of_halves}
use Rattle.gc_label.proofs.LabelLemmas.{label_of_bytes-bytes_of_label}

-- The label of a label's halves is the label.
pub label_of_halves-halves : (label : ℕ) → label < 2 ^ 128
    → label_of_halves (low_half label) (high_half label) ≡ label
unfolding bytes_of_label
label_of_halves-halves label fits =
    let bytes = bytes_of_label label in
    let low : to_le_bytes w64 (low_half label) ≡ take 8 bytes = search arith depth 9 in
    let high : to_le_bytes w64 (high_half label) ≡ drop 8 bytes = search arith depth 9 in
    (λ i. label_of_bytes (low i ++ high i)) ∙ label_of_bytes-bytes_of_label label fits
