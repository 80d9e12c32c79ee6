-- Label files.
use Rattle.gc_file.proofs.Names.{◌≡◌, ◌≢◌, ℕ, ◌+◌, ◌*◌, ◌≤◌, ◌⊎◌, inl, inr, List, ◌++◌, length, take, drop, flat_map, refl, sym, ap, ◌∙◌, append_assoc, length-append, arith, cases_lt, take-append-le, drop_at, take_all, length-drop, MAX_WIRES, bytes_of_label, label_of_bytes, length-bytes_of_label, FileFault, BadMagic, Truncated, Trailing, CountTooLarge, number_bytes, u32_at, MatchesMagic, label_count, labels_end, FirstLabelFault, bad_label_magic, too_many_labels, labels_trailing, header_truncated, labels_truncated, AreBytes, LabelFileParts, label_magic, label_file, IsLabelFile}
use Rattle.gc_file.proofs.NumberLemmas.{length-number_bytes, u32_at-append, u32_at-number_bytes}
use Rattle.gc_file.proofs.PairLemmas.{length-flat_map}
use Rattle.gc_file.proofs.HeaderLemmas.{begun_before}
use Rattle.gc_file.proofs.FormLemmas.{begins, label_file_is}
use Rattle.gc_file.proofs.ItemLemmas.{small, AreBytes-drop, items_from, items_back, items_spelled, label_spelling}
use Rattle.gc_file.proofs.EitherLemmas.{other_or_same}

-- What the bytes of a label file hold.
abbrev labels_in : List ℕ → LabelFileParts
labels_in b = record {
  index = u32_at 8 b;
  labels = items_from 16 label_of_bytes (label_count b) (drop 16 b);
}

module _ (b : List ℕ) (p : LabelFileParts) (file : IsLabelFile b p) where
  abbrev labels : List ℕ
  labels = flat_map bytes_of_label p.labels

  spelled : b ≡ label_magic ++ number_bytes p.index ++ number_bytes (length p.labels) ++ labels
  unfolding label_file
  spelled = file.spelled

  file_length : length b ≡ 16 + 16 * length p.labels
  file_length = ap length spelled ∙ simp (
    length-append,
    length-number_bytes,
    length-flat_map bytes_of_label 16 length-bytes_of_label,
  ) (omega arith)

  file_index : u32_at 8 b ≡ p.index
  file_index = rw (spelled, append_assoc, append_assoc)
      (u32_at-number_bytes 8 p.index label_magic _ refl file.index)

  file_count : label_count b ≡ length p.labels
  file_count = rw (spelled, append_assoc (label_magic ++ number_bytes p.index))
      (u32_at-number_bytes 12 (length p.labels) (label_magic ++ number_bytes p.index) labels
      (omega (arith, length-append {A = ℕ}, length-number_bytes)) (omega (arith, file.few_labels)))

  file_rest : drop 16 b ≡ labels
  file_rest = ap (drop 16) spelled ∙ drop_at (label_magic ++ number_bytes p.index
      ++ number_bytes (length p.labels)) labels 16 (simp (length-append, length-number_bytes))

  file_labels : labels_in b ≡ p
  file_labels =
      rw (file_index, file_count, file_rest, items_back label_spelling p.labels file.labels) refl

  file_begun : MatchesMagic label_magic b
  file_begun = ap (take 8) spelled
      ∙ sym (take_all (length b) label_magic (omega (arith, file_length)))

pub one_label_file : (b : List ℕ) (p q : LabelFileParts) → IsLabelFile b p → IsLabelFile b q → p ≡ q
one_label_file b p q fp fq = sym (file_labels b p fp) ∙ file_labels b q fq

-- ---- the faults

pub one_fault : (b : List ℕ) (e f : FileFault) → FirstLabelFault b e → FirstLabelFault b f → e ≡ f
one_fault b e f x y = grind arith

pub not_both : (b : List ℕ) (p : LabelFileParts) (e : FileFault) → IsLabelFile b p
    → FirstLabelFault b e → ⊥
not_both b p e file x =
    grind (arith, file_begun b p file, file_length b p file, file_count b p file)

still : (b more : List ℕ) → 8 ≤ length b → MatchesMagic label_magic b
    → MatchesMagic label_magic (b ++ more)
still b more long begun =
    grind (arith, take-append-le 8 b more, begins, take_all {A = ℕ}, length-append b more)

-- Each fault but Truncated is that of all longer bytes.
pub lasts : (b : List ℕ) (e : FileFault) (more : List ℕ) → e ≢ Truncated → FirstLabelFault b e
    → FirstLabelFault (b ++ more) e
lasts b _ more other (bad_label_magic none) =
    bad_label_magic (λ is. none (begun_before label_magic b more is))
lasts b _ more other (too_many_labels begun long many) =
    too_many_labels (still b more (omega arith) begun) (omega (arith, length-append b more))
    (rw (u32_at-append 12 b more (omega arith)) many)
lasts b _ more other (labels_trailing begun long few after) =
    let count = u32_at-append 12 b more (omega arith) in
    labels_trailing (still b more (omega arith) begun) (omega (arith, length-append b more))
    (rw count few)
    (omega (arith, length-append b more, count))
lasts b _ more other (header_truncated begun short) = absurd (other refl)
lasts b _ more other (labels_truncated begun long few less) = absurd (other refl)

-- Bytes are a label file or have a first fault.
pub judged : (b : List ℕ) → AreBytes b
    → ((p : LabelFileParts) × IsLabelFile b p) ⊎ ((e : FileFault) × FirstLabelFault b e)
judged b are = elim (other_or_same (take 8 b) (take (length b) label_magic)) [
  | inl other ↦ inr (BadMagic, bad_label_magic other)
  | inr begun ↦ elim (cases_lt (length b) 16) [
    | inl short ↦ inr (Truncated, header_truncated begun short)
    | inr long ↦ elim (cases_lt MAX_WIRES (label_count b)) [
      | inl many ↦ inr (CountTooLarge, too_many_labels begun long many)
      | inr few ↦ elim (cases_lt (length b) (labels_end b)) [
        | inl less ↦ inr (Truncated, labels_truncated begun long few less)
        | inr reaches ↦ elim (cases_lt (labels_end b) (length b)) [
          | inl more ↦ inr (Trailing, labels_trailing begun long few more)
          | inr exact ↦
              let labels = items_spelled label_spelling (label_count b) (drop 16 b)
              (length-drop 16 b ∙ omega arith) (AreBytes-drop 16 b are) in
              inl (
                labels_in b,
                label_file_is b (small b are)
                    (record { begun = begun; header = long; few_labels = few; whole = omega arith })
                    (u32_at 8 b) refl (labels_in b).labels labels.0 labels.1,
              )
        ]
      ]
    ]
  ]
]
