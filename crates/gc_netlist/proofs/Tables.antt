-- Tables of values on the wires, as lists.
use Rattle.gc_netlist.proofs.CommonNames.{◌≡◌, ℕ, zero, suc, ◌+◌, ◌-◌, ◌<◌, ◌≤◌, inl, inr, List, length, length-set, map, set, drop, get_or, slice_get, add-one, Some, refl, ap, ◌∙◌, arith, replicate, ◌++◌, nat_tests, get_or-set_same, get_or-set_other, get_or-replicate, get_or_past, length-map-range_with_len, get_or-map-range_with_len, fill_by_all, range_with_len, common_steps, Gate, Netlist, EachRead, IsSetBefore, IsLawful}
use Rattle.gc_netlist.proofs.SolutionLemmas.{EachRead-map}
use Rattle.gc_netlist.specs.Solution.{IsLocal, put, values_after}

-- what a table has at a place
pub read-table : {A : Type 0} (f : ℕ → A) (n k : ℕ) (d : A) → k < n →
    get_or (map f (range_with_len 0 n)) k d ≡ f k
read-table f n k d h = get_or-map-range_with_len f 0 n k k d h (omega arith)

-- a table with one value changed
pub set-table : {A : Type 0} (f : ℕ → A) (n s : ℕ) (x : A) → s < n →
    set (map f (range_with_len 0 n)) s x ≡ map (put f s x) (range_with_len 0 n)
set-table f n s x h =
    let long = length-map-range_with_len f 0 n in
    fill_by_all (put f s x) (set (map f (range_with_len 0 n)) s x) n x
    (length-set (map f (range_with_len 0 n)) s x ∙ long)
    (λ k below. grind (arith, nat_tests, read-table, get_or-set_same, get_or-set_other, long))

-- a wire that is set is a wire
pub IsSetBefore-below : (c : Netlist) → IsLawful c → (n w : ℕ) → IsSetBefore c n w → w < c.wires
IsSetBefore-below c lawful n w (inl input) = omega (arith, lawful.inputs_fit)
IsSetBefore-below c lawful n w (inr (i, below, by)) =
    omega (arith, lawful.sets i by.gate by.at, by.wire)

-- EachRead of what holds of each wire
pub EachRead-below : (c : Netlist) → IsLawful c → (i : ℕ) (g : Gate) →
    slice_get c.gates i ≡ Some g → EachRead (λ w. w < c.wires) g.operation
EachRead-below c lawful i g at = EachRead-map (IsSetBefore c i) (λ w. w < c.wires) g.operation
    (λ w h. IsSetBefore-below c lawful i w h) (lawful.reads i g at)

module _ {A : Type 0} (rule : (ℕ → A) → ℕ → Gate → A) (c : Netlist) (given : ℕ → A) where
  pub after-zero : values_after rule c given 0 ≡ given
  unfolding values_after
  after-zero = refl

-- the end of a table
pub drop-table : {A : Type 0} (f : ℕ → A) (k a n : ℕ) →
    drop k (map f (range_with_len a n)) ≡ map f (range_with_len (a + k) (n - k))
drop-table f zero a n = grind arith
drop-table f (suc k) a zero = grind arith
drop-table f (suc k) a (suc n) = grind (arith, drop-table f k (a + 1) n)

pub table_end : {A : Type 0} (f : ℕ → A) (n m : ℕ) → m ≤ n →
    drop (n - m) (map f (range_with_len 0 n)) ≡ map f (range_with_len (n - m) m)
table_end f n m h = grind (arith, drop-table)

-- One more gate, computed from the table: the step of every one-pass evaluator. The default d is
-- never read.
pub table_step : {A : Type 0} (rule : (ℕ → A) → ℕ → Gate → A) → IsLocal rule → (c : Netlist) →
    IsLawful c → (given : ℕ → A) →
    (table : List A) (i : ℕ) (g : Gate) (d x : A) →
    table ≡ map (values_after rule c given i) (range_with_len 0 c.wires) →
    slice_get c.gates i ≡ Some g →
    x ≡ rule (λ w. get_or table w d) i g →
    set table g.set x ≡ map (values_after rule c given (i + 1)) (range_with_len 0 c.wires)
unfolding values_after
table_step {A = A} rule local c lawful given table i g d x is at value =
    let v : ℕ → A = values_after rule c given i in
    let same : x ≡ rule v i g = value ∙ local _ v i g (EachRead-map (λ w. w < c.wires) _ g.operation
    (λ w below. ap (λ l. get_or l w d) is ∙ read-table v c.wires w d below)
    (EachRead-below c lawful i g at)) in
    rw (is, same, add-one, at) (set-table v c.wires g.set (rule v i g)
    (lawful.sets i g at))

-- how long a table is
pub length-table : {A : Type 0} (f : ℕ → A) (n : ℕ) (table : List A) →
    table ≡ map f (range_with_len 0 n) → length table ≡ n
length-table f n table is = ap length is ∙ length-map-range_with_len f 0 n

-- a table in front, and one value in each place that is left
pub table_padded : {A : Type 0} (xs : List A) (n : ℕ) (d : A) → length xs ≤ n →
    xs ++ replicate (n - length xs) d ≡ map (λ w. get_or xs w d) (range_with_len 0 n)
table_padded xs n d fits = fill_by_all (λ w. get_or xs w d) _ n d (grind (arith, common_steps))
    (λ k below. grind (arith, common_steps, get_or_past, get_or-replicate))
