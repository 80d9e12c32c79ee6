-- The reads of a circuit: linking them, and counting down the gates that read a wire.
use Rattle.gc_store.proofs.Names.{◌≡◌, ℕ, ◌+◌, ◌<◌, inl, inr, List, length, length-set, set, get_or, ◌∙◌, arith, ◌≢◌, ◌-◌, ◌*◌, ◌/◌, ◌≤◌, slice_get, Option, Some, ltb, ◌==◌, if◌then◌else◌, refl, cases_eq, get_or-set_same, get_or-set_other, get_or_read, get_or_past, slice_get_within, nat_tests, Netlist, IsLawful, first_wire, second_wire, EachRead-below, Operation, Gate, read_count, IsReadOf, IsNextRead, IsLinkedFrom, picked, reads_of}

-- a read is one of a circuit's reads,
IsReadOf-within : (c : Netlist) (r w : ℕ) → IsReadOf c r w → r < read_count c
IsReadOf-within c r w is = grind (arith, is.which, slice_get_within)

-- and reads one wire
IsReadOf-same : (c : Netlist) (r v w : ℕ) → IsReadOf c r v → IsReadOf c r w → v ≡ w
IsReadOf-same c r v w one two = grind (arith, one.which, two.which)

-- a wire without a read at place m has its next read from there on where it has it after m
skipped : (c : Netlist) (w m n r : ℕ) → n ≡ m + 1 → ¬ IsReadOf c m w → IsNextRead c w n r
    → IsNextRead c w m r
skipped c w m n r one not next = grind (arith, cases_eq, next.none_between)

-- one read more, read m: n is the read after it
module _ (c : Netlist) (lawful : IsLawful c) (m n : ℕ) (firsts nexts : List ℕ) (one : n ≡ m + 1)
    (linked : IsLinkedFrom c n firsts nexts) where
  -- it is of no wire
  pub link_no_wire : ((w : ℕ) → ¬ IsReadOf c m w) → IsLinkedFrom c m firsts nexts
  link_no_wire none = record {
    wires = linked.wires;
    reads = linked.reads;
    first = λ w below. skipped c w m n (get_or firsts w 0) one (none w) (linked.first w below);
    next = λ r w from is. grind (arith, cases_eq r m, linked.next r w, none w);
  }

  -- it is of wire w, whose first read was x
  pub link_wire : (w x : ℕ) → IsReadOf c m w → x ≡ get_or firsts w x
      → IsLinkedFrom c m (set firsts w m) (set nexts m x)
  link_wire w x read at =
      let each = EachRead-below c lawful read.place read.gate read.at in
      let wire : w < c.wires = grind (arith, read.which) in
      let inside : w < length firsts = omega (arith, linked.wires) in
      let within : m < length nexts = omega (arith, linked.reads, IsReadOf-within c m w read) in
      record {
        wires = length-set firsts w m ∙ linked.wires;
        reads = length-set nexts m x ∙ linked.reads;
        first = λ v below. elim (cases_eq v w) [
          | inl same ↦ rw (same, get_or-set_same firsts w m 0 inside)
              (grind (arith, IsReadOf-within c m w read))
          | inr other ↦ rw (get_or-set_other firsts w v m 0 other)
              (skipped c v m n (get_or firsts v 0) one (λ is. other (IsReadOf-same c m v w is read))
              (linked.first v below))
        ];
        next = λ r v from is. elim (cases_eq r m) [
          | inl same ↦
              let wires = IsReadOf-same c m v w (rw same at is) read in
              let first = get_or_read firsts w x inside at 0 in
              rw (same, wires, get_or-set_same nexts m x 0 within, first, ← one)
              (linked.first w wire)
          | inr other ↦ rw (get_or-set_other nexts m r x 0 other) (linked.next r v (omega arith) is)
        ];
      }

-- ---- counting down, read by read

-- whether read k, of wire o, is of wire w and before read r, as 1 or 0
abbrev pub passed_read : ℕ → ℕ → ℕ → Option ℕ → ℕ
passed_read w r k o = if ltb k r then picked (λ v. v == w) o else 0

-- how many of the reads of gate i are of wire w and before read r
abbrev pub passed_reads : ℕ → ℕ → ℕ → Operation → ℕ
passed_reads w r i op =
    passed_read w r (2 * i) (first_wire op) + passed_read w r (2 * i + 1) (second_wire op)

passed_most : (w r k : ℕ) (o : Option ℕ) → passed_read w r k o ≤ picked (λ v. v == w) o
passed_most w r k o = grind (arith, nat_tests)

-- the next read of the wire passes no other read of it,
passed_step : (w r next k : ℕ) (o : Option ℕ) → r < next → k ≢ r
    → (r + 1 ≤ k → k < next → o ≢ Some w) → passed_read w next k o ≡ passed_read w r k o
passed_step w r next k o more apart none = grind (arith, nat_tests)

-- and passes the one before
passed_here : (w r next k : ℕ) (o : Option ℕ) → r < next → k ≡ r → o ≡ Some w
    → passed_read w next k o ≡ passed_read w r k o + 1
passed_here w r next k o more here is = grind (arith, nat_tests)

module _ (c : Netlist) (w : ℕ) where
  first_read : (i : ℕ) (g : Gate) → slice_get c.gates i ≡ Some g → first_wire g.operation ≡ Some w
      → IsReadOf c (2 * i) w
  first_read i g at is = record { place = i; gate = g; at = at; which = inl (refl, is) }

  second_read : (i : ℕ) (g : Gate) → slice_get c.gates i ≡ Some g → second_wire g.operation ≡ Some w
      → IsReadOf c (2 * i + 1) w
  second_read i g at is = record { place = i; gate = g; at = at; which = inr (refl, is) }

  -- no read is passed before the first one
  passed_none : (r : ℕ) → IsNextRead c w 0 r → (i : ℕ) (g : Gate) → slice_get c.gates i ≡ Some g
      → passed_reads w r i g.operation ≡ 0
  passed_none r next i g at =
      grind (arith, nat_tests, first_read i g at, second_read i g at, next.none_between)

  module _ (r next : ℕ) (is : IsReadOf c r w) (after : IsNextRead c w (r + 1) next) where
    -- a read passes one of the reads of its gate,
    passes_own : passed_reads w next is.place is.gate.operation
        ≡ passed_reads w r is.place is.gate.operation + 1
    passes_own =
        let first = first_read is.place is.gate is.at in
        let second = second_read is.place is.gate is.at in
        grind (arith, passed_here, passed_step)

    -- and none of another gate
    passes_other : (i : ℕ) (g : Gate) → slice_get c.gates i ≡ Some g → i ≢ is.place
        → passed_reads w next i g.operation ≡ passed_reads w r i g.operation
    passes_other i g at other =
        let first = first_read i g at in
        let second = second_read i g at in
        grind (arith, is.which, after.after, after.none_between, passed_step)

    -- so one of its gate's reads is still to come
    own_left : passed_reads w r is.place is.gate.operation < reads_of w is.gate.operation
    own_left = grind (arith, passes_own, passed_most)

-- How far counting down has come at read r: a countdown and the reads passed give what it was.
pub record IsCounted (c : Netlist) (w r : ℕ) (was now : List ℕ) : Type 0 where
  pub ends : r ≤ read_count c
  pub here : r < read_count c → IsReadOf c r w
  pub counted : (i : ℕ) (g : Gate) → slice_get c.gates i ≡ Some g
      → get_or now i 0 + passed_reads w r i g.operation ≡ get_or was i 0

module _ (c : Netlist) (w : ℕ) where
  pub counted_none : (r : ℕ) (was : List ℕ) → IsNextRead c w 0 r → IsCounted c w r was was
  counted_none r was next = grind (arith, passed_none c w r next)

  module _ (r next : ℕ) (was now : List ℕ) (fits : (i : ℕ) (g : Gate) → slice_get c.gates i ≡ Some g
      → reads_of w g.operation ≤ get_or was i 0) (counted : IsCounted c w r was now)
      (below : r < read_count c) (after : IsNextRead c w (r + 1) next) where
    is : IsReadOf c r w
    is = counted.here below

    -- the gate of the read can be counted down,
    pub still_counted : 0 < get_or now (r / 2) 0
    still_counted =
        let left = own_left c w r next is after in
        let sum = counted.counted is.place is.gate is.at in
        grind (arith, left, sum, fits is.place is.gate is.at, is.which)

    -- and that comes to the next read
    pub counted_more : IsCounted c w next was (set now (r / 2) (get_or now (r / 2) 0 - 1))
    counted_more = record {
      ends = after.ends;
      here = after.here;
      counted = λ i g at.
          let sum = counted.counted i g at in
          let own = passes_own c w r next is after in
          let other = passes_other c w r next is after i g at in
          let some = still_counted in
          let past = get_or_past now (r / 2) 0 in
          grind (arith, is.which, is.at, cases_eq i is.place, get_or-set_same, get_or-set_other);
    }

  -- and at the end each gate is counted down by its reads of the wire
  pub counted_all : (r : ℕ) (was now : List ℕ) → IsCounted c w r was now → read_count c ≤ r
      → (i : ℕ) (g : Gate) → slice_get c.gates i ≡ Some g
      → get_or now i 0 + reads_of w g.operation ≡ get_or was i 0
  counted_all r was now counted end i g at =
      grind (arith, nat_tests, counted.counted i g at, slice_get_within)
