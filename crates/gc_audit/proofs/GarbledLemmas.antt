-- What an audit of a garbled file finds, from what it finds of each part.
use Rattle.gc_audit.proofs.Names.{◌≡◌, ◌≢◌, ◌↔◌, ℕ, ◌+◌, ◌-◌, ◌<◌, Bool, true, false, List, length, map, take, slice_get, slice_index, get_or, Option, Some, None, MatchOption, refl, sym, ap, subst, ◌∙◌, arith, get_or_from_slice_get, slice_get-get_or, slice_get_read, Netlist, IsLawful, offset_of, GarblingParts, FitsCircuit, decode_bits_of, garbling_of, row_pairs_of, HasLabels, length-row_pairs_of, parts-same, Version, One, Two, GarbledParts, entry_count, entry_pair_of, entry_pairs_of, length-decode_bits, length-entry_pairs, entry_pairs-at, version_entries, honest_parts_with, range_with_len, get_or-map-range_with_len, AreCountsRight, IsRowsAudit, IsBitsAudit, IsPartsAudit, IsPartsAuditWith, IsGarbledAuditWith, honest_audit}
use Rattle.gc_audit.specs.Entries.{named, DifferFirstIn, IsEntryDifference}
use Rattle.gc_half.specs.Entry.{entry_of, entries_of, label_of_colour, output_tweak}
use Rattle.gc_half.specs.Hash.{hash}
use Rattle.gc_file.specs.declared.parts.EntryPair.{EntryPair}
use Rattle.gc_audit.specs.declared.garbled.GarbledAudit.{GarbledAudit}
use Rattle.gc_audit.specs.declared.garbled.PartsAudit.{PartsAudit}
use Rattle.gc_audit.proofs.DifferenceLemmas.{differ_first, same_more, none_found}

-- The entry pair of an output is at its place.
pair_at_output : (offset : ℕ) (g : GarblingParts) (i : ℕ) → i < g.outputs →
    slice_get (entry_pairs_of offset g) i ≡ Some (entry_pair_of offset g i)
pair_at_output offset g i below =
    let pair = entry_pair_of offset g i in
    slice_get-get_or (entry_pairs_of offset g) i pair (omega (arith, length-entry_pairs offset g))
    ∙ ap Some (entry_pairs-at offset g i pair below)

-- Entries that were made of an output,
pub named_of : (offset : ℕ) (g : GarblingParts) (i a b : ℕ) → a ≡ entry_of offset g i false
    → b ≡ entry_of offset g i true → named (a, b) ≡ entry_pair_of offset g i
named_of offset g i a b is_a is_b = rw (is_a, is_b)

-- and those that were made of four outputs, at one of them.
pub named_at : (offset : ℕ) (g : GarblingParts) (first i : ℕ) (made : List (ℕ × ℕ)) (none : ℕ × ℕ)
    → made ≡ map (entries_of offset g) (range_with_len first 4) → i < 4
    → named (get_or made i none) ≡ entry_pair_of offset g (first + i)
named_at offset g first i made none is below =
    rw (is, get_or-map-range_with_len (entries_of offset g) first 4 i (first + i) none below refl)

-- Pairs of which one colour's entries differ are different.
DifferFirstIn-differ : (p q : EntryPair) (s : Bool) → DifferFirstIn p q s → p ≢ q
DifferFirstIn-differ p q false differ = λ same. differ cc
DifferFirstIn-differ p q true differ = λ same. differ.1 cc

-- The entries of an output, and the pair that they are compared with, where all are the same before.
module _ (offset : ℕ) (g : GarblingParts) (entries : List EntryPair) (i : ℕ) (p q : EntryPair)
    (before : take i entries ≡ take i (entry_pairs_of offset g)) (within : i < length entries)
    (is_p : p ≡ get_or entries i p) (below : i < g.outputs) (is_q : q ≡ entry_pair_of offset g i)
  where
    at_p : slice_get entries i ≡ Some p
    at_p = slice_get_read entries (length entries) i p refl within is_p

    at_q : slice_get (entry_pairs_of offset g) i ≡ Some q
    at_q = rw is_q (pair_at_output offset g i below)

    -- They differ first here,
    pub differ_there : (s : Bool) → DifferFirstIn p q s
        → IsEntryDifference entries (entry_pairs_of offset g) (record { output = i; colour = s })
    differ_there s differ = record {
      first = differ_first entries _ i p q before at_p at_q (DifferFirstIn-differ p q s differ);
      colour =
          let none : EntryPair = record { entry_zero = 0; entry_one = 0 } in
          rw (
            get_or_from_slice_get entries i p none at_p,
            get_or_from_slice_get (entry_pairs_of offset g) i q none at_q,
          ) differ;
    }

    -- or are the same up to the next place.
    pub same_there : p ≡ q → (next : ℕ) → next ≡ i + 1
        → take next entries ≡ take next (entry_pairs_of offset g)
    same_there same next is = rw is (same_more entries _ i p q before at_p at_q same)

module _ (c : Netlist) (g : GarblingParts) (offset : ℕ) (file : GarbledParts) where
  abbrev IsHonest : Type 0
  IsHonest = file ≡ honest_parts_with file.version c g offset

  -- An honest file has the counts of the circuit.
  honest-counts : IsLawful c → FitsCircuit c g → IsHonest → AreCountsRight c file
  honest-counts lawful fits is =
      let bits : length (decode_bits_of g) ≡ g.outputs =
      length-decode_bits g (omega (arith, lawful.outputs_fit, fits.wires, fits.outputs)) in
      rw is (record {
        rows = fits.and_gates;
        decode_bits = bits ∙ fits.outputs;
        entries = counted file.version;
      })
    where
      counted : (v : Version) → length (version_entries v offset g)
          ≡ entry_count v (length (decode_bits_of g))
      counted One = refl
      counted Two = length-entry_pairs offset g ∙ sym (length-decode_bits g (omega arith))

  module _ (lawful : IsLawful c) (fits : FitsCircuit c g) (is : IsHonest) where
    -- In the parts of an honest file no difference is found,
    none-in_parts : (parts : Option PartsAudit)
        → MatchOption parts (¬ AreCountsRight c file) (IsPartsAuditWith c g offset file)
        → parts ≡ Some (record { rows = None; bits = None; entries = None })
    none-in_parts None wrong = absurd (wrong (honest-counts lawful fits is))
    none-in_parts (Some p) found =
        rw (
          none_found p.rows _ _ (λ d. d.number) _ (λ d h. h.first) found.rows (rw is),
          none_found p.bits _ _ (λ d. d) _ (λ d h. h) found.bits (rw is),
          none_found p.entries _ _ (λ d. d.output) _ (λ d h. h.first) found.entries (rw is),
        )

    none-in_file : (audit : GarbledAudit) → IsGarbledAuditWith c g offset file audit
        → audit ≡ honest_audit
    none-in_file audit found =
        let digest : audit.digest ≡ true =
        found.digest.1 (ap (λ (f : GarbledParts). f.digest) is) in
        rw (← none-in_parts audit.parts found.parts, ← digest)

  -- and where none is found the file is honest.
  pub finds_none-honest : IsLawful c → FitsCircuit c g → (audit : GarbledAudit)
      → IsGarbledAuditWith c g offset file audit → (audit ≡ honest_audit) ↔ IsHonest
  finds_none-honest lawful fits audit found = (
    λ none.
        let at = subst (IsGarbledAuditWith c g offset file) none found in
        rw (← at.parts.entries, ← at.parts.bits, ← at.digest.0 refl, ← at.parts.rows),
    λ is. none-in_file lawful fits is audit found,
  )

module _ (c : Netlist) (seed : List ℕ) (lawful : IsLawful c) (g : GarblingParts)
    (has : HasLabels c seed g) where
  -- The garbling has these labels,
  same_garbling : record {
    zero_labels = g.zero_labels;
    rows = row_pairs_of c seed;
    outputs = g.outputs;
  } ≡ garbling_of c seed
  same_garbling = parts-same _ _ _ _ has.labels refl has.fits.outputs

  -- the entry pairs of a circuit with this many AND gates
  abbrev pairs_with : ℕ → List EntryPair
  pairs_with ands =
      let entry : ℕ → Bool → ℕ = λ i s.
      hash
      (label_of_colour (offset_of seed)
      (slice_index g.zero_labels (length g.zero_labels - g.outputs + i)) s)
      (output_tweak ands i) in
      let pair : ℕ → EntryPair = λ i.
      record { entry_zero = entry i false; entry_one = entry i true } in
      map pair (range_with_len 0 g.outputs)

  same_entries : (v : Version)
      → version_entries v (offset_of seed) g
      ≡ version_entries v (offset_of seed) (garbling_of c seed)
  same_entries One = refl
  same_entries Two =
      ap pairs_with (has.fits.and_gates ∙ sym (length-row_pairs_of c seed lawful))
      ∙ ap (entry_pairs_of (offset_of seed)) same_garbling

  -- so what is found of the other parts by the labels is found by the garbling.
  pub compared-audit : (file : GarbledParts) (audit : PartsAudit) → AreCountsRight c file
      → IsRowsAudit c (garbling_of c seed) file.rows audit.rows
      → IsBitsAudit g file.decode_bits audit.bits
      → (let entries = version_entries file.version (offset_of seed) g in
      MatchOption audit.entries (file.entries ≡ entries) (IsEntryDifference file.entries entries))
      → IsPartsAudit c (garbling_of c seed) seed file audit
  compared-audit file audit counts rows bits entries = record {
    counts = counts;
    rows = rows;
    bits = subst (λ made. IsBitsAudit made file.decode_bits audit.bits) same_garbling bits;
    entries = subst (λ l.
        MatchOption audit.entries (file.entries ≡ l) (IsEntryDifference file.entries l))
        (same_entries file.version) entries;
  }
