-- Items of one size: labels, row pairs and entry pairs, and their bytes.
use Rattle.gc_file.proofs.Names.{◌≡◌, ℕ, zero, suc, ◌+◌, ◌*◌, ◌<◌, List, [], ◌∷◌, length, take, drop, flat_map, get_or, All, refl, ◌∙◌, arith, cases_lt, take-append-drop, take_at, drop_at, get_or_past, length-drop, length-take-le, bytes_of_label, label_of_bytes, length-bytes_of_label, label_of_bytes-bytes_of_label, bytes_of_label-label_of_bytes, label_of_bytes-lt, row_bytes, entry_bytes, IsLabel, AreBytes, mul-suc, All-cons, All-take, All-drop, RowPair, EntryPair, bytes_by, IsLabelPair}
use Rattle.gc_file.proofs.LabelBytesLemmas.{length-bytes_by}

-- Each place of bytes has a byte, or is past their end.
pub small : (bytes : List ℕ) → AreBytes bytes → (i : ℕ) → get_or bytes i 0 < 256
small bytes are i = grind (arith, cases_lt i (length bytes), are i 0, get_or_past bytes i 0)

pub AreBytes-take : (n : ℕ) (bytes : List ℕ) → AreBytes bytes → AreBytes (take n bytes)
AreBytes-take n bytes = All-take (λ byte. byte < 256) n bytes

pub AreBytes-drop : (n : ℕ) (bytes : List ℕ) → AreBytes bytes → AreBytes (drop n bytes)
AreBytes-drop n bytes = All-drop (λ byte. byte < 256) n bytes

-- How items of one size are spelled, and read from their bytes.
pub record IsSpelling {P : Type 0} (size : ℕ) (bytes_of : P → List ℕ) (read : List ℕ → P)
    (IsItem : P → Type 0) : Type 0 where
  pub long : (p : P) → length (bytes_of p) ≡ size
  pub back : (p : P) → IsItem p → read (bytes_of p) ≡ p
  pub item : (l : List ℕ) → length l ≡ size → AreBytes l → (bytes_of (read l) ≡ l) × IsItem (read l)

-- The items in bytes.
pub items_from : {P : Type 0} (size : ℕ) (read : List ℕ → P) → ℕ → List ℕ → List P
items_from size read zero bytes = []
items_from size read (suc n) bytes = read (take size bytes)
    ∷ items_from size read n (drop size bytes)

module _ {P : Type 0} {size : ℕ} {bytes_of : P → List ℕ} {read : List ℕ → P} {IsItem : P → Type 0}
    (is : IsSpelling size bytes_of read IsItem) where
  -- Items are read from their bytes,
  pub items_back : (items : List P) → All IsItem items
      → items_from size read (length items) (flat_map bytes_of items) ≡ items
  unfolding items_from
  items_back [] each = refl
  items_back (p ∷ items) each =
      rw (
        take_at (bytes_of p) (flat_map bytes_of items) size (is.long p),
        drop_at (bytes_of p) (flat_map bytes_of items) size (is.long p),
        is.back p (each 0 p (omega arith)),
        items_back items (λ k d within. each (suc k) d (omega arith)),
      ) refl

  -- and bytes of a whole number of items are spelled by them.
  pub items_spelled : (n : ℕ) (bytes : List ℕ) → length bytes ≡ size * n → AreBytes bytes
      → (flat_map bytes_of (items_from size read n bytes) ≡ bytes)
      × All IsItem (items_from size read n bytes)
  unfolding items_from
  items_spelled zero [] len are = (refl, λ k d within. absurd (omega arith))
  items_spelled zero (x ∷ bytes) len are = absurd (omega arith)
  items_spelled (suc n) bytes len are =
      let long : length bytes ≡ size * n + size = len ∙ mul-suc size n in
      let first = is.item (take size bytes) (length-take-le size bytes (omega arith))
      (AreBytes-take size bytes are) in
      let rest = items_spelled n (drop size bytes) (omega (arith, length-drop size bytes))
      (AreBytes-drop size bytes are) in
      (rw (first.0, rest.0) (take-append-drop size bytes), All-cons IsItem _ _ first.1 rest.1)

pub label_spelling : IsSpelling 16 bytes_of_label label_of_bytes IsLabel
label_spelling = record {
  long = length-bytes_of_label;
  back = label_of_bytes-bytes_of_label;
  item = λ l len are.
      (bytes_of_label-label_of_bytes l len (small l are), label_of_bytes-lt l len (small l are));
}

-- Pairs of labels of either kind are spelled by 32 bytes.
pair_spelling : {P : Type 0} (labels : P → ℕ × ℕ) (make : ℕ → ℕ → P)
    → ((a b : ℕ) → labels (make a b) ≡ (a, b)) → ((p : P) → make (labels p).0 (labels p).1 ≡ p)
    → IsSpelling 32 (bytes_by labels)
    (λ l. make (label_of_bytes (take 16 l)) (label_of_bytes (drop 16 l))) (IsLabelPair labels)
pair_spelling labels make made again = record {
  long = length-bytes_by labels;
  back = λ p are.
      let first = bytes_of_label (labels p).0 in let second = bytes_of_label (labels p).1 in
      let long = length-bytes_of_label (labels p).0 in
      rw (
        take_at first second 16 long,
        drop_at first second 16 long,
        label_of_bytes-bytes_of_label (labels p).0 are.0,
        label_of_bytes-bytes_of_label (labels p).1 are.1,
      ) (again p);
  item = λ l len are.
      let first = label_spelling.item (take 16 l) (length-take-le 16 l (omega arith))
      (AreBytes-take 16 l are) in
      let second = label_spelling.item (drop 16 l) (length-drop 16 l ∙ omega arith)
      (AreBytes-drop 16 l are) in
      rw (made, first.0, second.0) (take-append-drop 16 l, (first.1, second.1));
}

abbrev pub row_of : List ℕ → RowPair
row_of l = record { generator = label_of_bytes (take 16 l); evaluator = label_of_bytes (drop 16 l) }

pub row_spelling : IsSpelling 32 row_bytes row_of
    (λ row. IsLabel row.generator × IsLabel row.evaluator)
row_spelling = pair_spelling (λ (row : RowPair). (row.generator, row.evaluator))
    (λ a b. record { generator = a; evaluator = b }) (λ a b. refl) (λ row. refl)

abbrev pub entry_of : List ℕ → EntryPair
entry_of l =
    record { entry_zero = label_of_bytes (take 16 l); entry_one = label_of_bytes (drop 16 l) }

pub entry_spelling : IsSpelling 32 entry_bytes entry_of
    (λ pair. IsLabel pair.entry_zero × IsLabel pair.entry_one)
entry_spelling = pair_spelling (λ (pair : EntryPair). (pair.entry_zero, pair.entry_one))
    (λ a b. record { entry_zero = a; entry_one = b }) (λ a b. refl) (λ pair. refl)
