-- The labels of a label file.
use Rattle.gc_file.proofs.Names.{◌≡◌, ℕ, suc, ◌+◌, ◌-◌, ◌*◌, ◌≤◌, slice_get, Some, sum, length-append, Bool, List, [], ◌∷◌, ◌++◌, length, flat_map, take, drop, refl, sym, ap, ◌∙◌, arith, take-add, take-append-drop, length-take-le, flat_map-append, sum_by_more_le, slice_get_within, get_or_from_slice_get, Netlist, IsLawful, bytes_of_label, label_magic, label_file, label_parts_of, encoded_with, encoded_from, offset_of, input_label_of, MAX_WIRES, length-bytes_of_label, number_bytes}
use Rattle.gc_file.proofs.NumberLemmas.{length-number_bytes}
use Rattle.gc_file.proofs.PairLemmas.{length-flat_map}

module _ (offset : ℕ) (zero_label : ℕ → ℕ) where
  pub encoded_with-append : (first : ℕ) (xs ys : List Bool) →
      encoded_with offset zero_label first (xs ++ ys)
      ≡ encoded_with offset zero_label first xs
      ++ encoded_with offset zero_label (first + length xs) ys
  encoded_with-append first [] ys = ap (λ n. encoded_with offset zero_label n ys) (omega arith)
  encoded_with-append first (x ∷ xs) ys =
      let next : first + suc (length xs) ≡ first + 1 + length xs = omega arith in
      rw (encoded_with-append (first + 1) xs ys, next) refl

  pub length-encoded_with : (first : ℕ) (bits : List Bool)
      → length (encoded_with offset zero_label first bits) ≡ length bits
  length-encoded_with first [] = refl
  length-encoded_with first (bit ∷ bits) = ap suc (length-encoded_with (first + 1) bits)

module _ (seed : List ℕ) where
  -- the bytes of the labels that stand for bits on the wires from the first one on
  abbrev pub label_bytes : ℕ → List Bool → List ℕ
  label_bytes first bits = flat_map bytes_of_label (encoded_from first seed bits)

  pub encoded_from-append : (first : ℕ) (xs ys : List Bool) →
      encoded_from first seed (xs ++ ys)
      ≡ encoded_from first seed xs ++ encoded_from (first + length xs) seed ys
  encoded_from-append first xs ys =
      encoded_with-append (offset_of seed) (input_label_of seed) first xs ys

  -- The bytes of some bits, and of those after them.
  pub label_bytes-append : (first : ℕ) (xs ys : List Bool) {at : ℕ} {zs : List Bool}
      → length xs ≡ at → xs ++ ys ≡ zs
      → label_bytes first xs ++ label_bytes (first + at) ys ≡ label_bytes first zs
  label_bytes-append first xs ys len all =
      rw (← all, ← len, encoded_from-append first xs ys, flat_map-append) refl

  -- Some bits, and those after them up to a place,
  pub label_bytes-next : (first : ℕ) (bits : List Bool) (done next : ℕ) → done ≤ next
      → next ≤ length bits →
      label_bytes first (take done bits)
      ++ label_bytes (first + done) (take (next - done) (drop done bits))
      ≡ label_bytes first (take next bits)
  label_bytes-next first bits done next on within =
      let is : next ≡ done + (next - done) = omega arith in
      label_bytes-append first _ _ (length-take-le done bits (omega arith))
      (sym (ap (λ n. take n bits) is ∙ take-add done (next - done) bits))

  -- or the rest.
  pub label_bytes-rest : (first : ℕ) (bits : List Bool) (done : ℕ) → done ≤ length bits →
      label_bytes first (take done bits) ++ label_bytes (first + done) (drop done bits)
      ≡ label_bytes first bits
  label_bytes-rest first bits done within =
      label_bytes-append first _ _ (length-take-le done bits within) (take-append-drop done bits)

pub length-encoded_from : (first : ℕ) (seed : List ℕ) (bits : List Bool)
    → length (encoded_from first seed bits) ≡ length bits
length-encoded_from first seed bits =
    length-encoded_with (offset_of seed) (input_label_of seed) first bits

-- A label file is its header and its labels.
pub label_file-is : (c : Netlist) (seed : List ℕ) (index : ℕ) (bits : List Bool) (first : ℕ) →
    first ≡ sum (take index c.input_widths) →
    (label_magic ++ number_bytes index ++ number_bytes (length bits)) ++ label_bytes seed first bits
    ≡ label_file (label_parts_of c seed index bits)
unfolding label_file
label_file-is c seed index bits first is =
    rw (is, length-encoded_from (sum (take index c.input_widths)) seed bits) refl

-- How many bytes a label file has.
pub length-label_file : (c : Netlist) (seed : List ℕ) (index : ℕ) (bits : List Bool)
    → length (label_file (label_parts_of c seed index bits)) ≡ 16 + 16 * length bits
length-label_file c seed index bits =
    ap length (sym (label_file-is c seed index bits _ refl)) ∙ simp (
      length-append,
      length-number_bytes,
      length-flat_map bytes_of_label 16 length-bytes_of_label,
      length-encoded_from,
    ) (omega arith)

-- The wires of an input value come before the number of wires.
pub first_wire-room : (c : Netlist) → IsLawful c → (index width : ℕ)
    → slice_get c.input_widths index ≡ Some width →
    sum (take index c.input_widths) + width ≤ MAX_WIRES
first_wire-room c lawful index width at =
    let within = slice_get_within c.input_widths index width at in
    let read = get_or_from_slice_get c.input_widths index width 0 at in
    omega (arith, sum_by_more_le (λ n. n) c.input_widths index 0 within)
