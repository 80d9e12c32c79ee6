-- Bytes of the form of a label file.
use Rattle.gc_file.proofs.Names.{take-add, ◌≡◌, ℕ, ◌<◌, ◌≤◌, List, ◌++◌, length, take, drop, flat_map, get_or, All, sym, ap, ◌∙◌, arith, bytes_of_label, length-bytes_of_label, number_bytes, u32_at, IsLabel, MatchesMagic, label_count, IsLabelForm, take-append-drop, take_all, length-drop, label_magic, label_file, IsLabelFile}
use Rattle.gc_file.proofs.NumberLemmas.{u32_at-lt, number_bytes-u32_at}
use Rattle.gc_file.proofs.PairLemmas.{length-flat_map}

pub begins : (b : List ℕ) → 8 ≤ length b → MatchesMagic label_magic b → take 8 b ≡ label_magic
begins b long begun = begun ∙ take_all (length b) label_magic long

-- Bytes of the form of a label file are the one with these labels.
pub label_file_is : (b : List ℕ) → ((i : ℕ) → get_or b i 0 < 256) → IsLabelForm b
    → (index : ℕ) → index ≡ u32_at 8 b → (labels : List ℕ)
    → flat_map bytes_of_label labels ≡ drop 16 b → All IsLabel labels
    → IsLabelFile b (record { index = index; labels = labels })
unfolding label_file
label_file_is b are form index index_is labels labels_are each =
    let size = length-flat_map bytes_of_label 16 length-bytes_of_label labels in
    let same = ap length labels_are in
    let rest = length-drop 16 b in
    let count : length labels ≡ label_count b = omega arith in
    let fits = u32_at-lt 8 b are in
    record {
      index = omega arith;
      few_labels = omega arith;
      labels = each;
      spelled = sym (ap (λ m. m ++ number_bytes index ++ number_bytes (length labels)
          ++ flat_map bytes_of_label labels) (sym (begins b (omega arith) form.begun))
          ∙ rw (
            index_is,
            count,
            labels_are,
            number_bytes-u32_at 8 b (omega arith) are,
            number_bytes-u32_at 12 b (omega arith) are,
            ← take-add 8 4 b,
            ← take-add 12 4 b,
          ) (take-append-drop 16 b));
    }
