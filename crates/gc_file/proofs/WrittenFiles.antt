-- What the writers write are files.
use Rattle.gc_file.proofs.Names.{IsRowPair, ℕ, List, length, sum, take, All, refl, sym, ◌∙◌, arith, range_with_len, zip, count_by-le-length, slice_get-get_or, length-sha256, Netlist, IsLawful, is_and, canonical_text, offset_of, IsLabel, entry_pair_of, decode_bits_of, ◌≤◌, MAX_GATES, MAX_WIRES, All-map}
use Rattle.gc_label.proofs.SeedLemmas.{offset_of-lt, input_label_of-lt}
use Rattle.gc_half.specs.Canonical.{garbling_of}
use Rattle.gc_half.proofs.Bounds.{IsSmall-hash, IsSmall-⊕, IsSmall-times, IsSmall-row_pairs_of}
use Rattle.gc_half.proofs.CanonicalLemmas.{garbling_of-IsGarbled}
use Rattle.gc_file.specs.WrittenLaw.{AreFiles}
use Rattle.gc_file.proofs.ByteLemmas.{length-decode_bits, length-entry_pairs}
use Rattle.gc_file.proofs.DealLemmas.{length-encoded_from, first_wire-room}

pub are_files : (c : Netlist) → IsLawful c → (seed : List ℕ) → AreFiles c seed
are_files c lawful seed =
    let g = garbling_of c seed in let garbled = garbling_of-IsGarbled c seed lawful in
    let few_gates = count_by-le-length (λ gate. is_and gate.operation) c.gates in
    let few_rows : length g.rows ≤ MAX_GATES = omega (arith, garbled.garbling.row_count) in
    let bits = length-decode_bits g (omega arith) in
    let few_outputs : length (decode_bits_of g) ≤ MAX_WIRES = omega arith in
    let rows : All IsRowPair g.rows =
    λ k row within. IsSmall-row_pairs_of c seed k _ (slice_get-get_or g.rows k row within) in
    record {
      one = record {
        few_rows = few_rows;
        few_outputs = few_outputs;
        digest = length-sha256 (canonical_text c);
        rows = rows;
        entries = λ k pair within. absurd (omega arith);
        entry_pairs = refl;
        spelled = refl;
      };
      two = record {
        few_rows = few_rows;
        few_outputs = few_outputs;
        digest = length-sha256 (canonical_text c);
        rows = rows;
        entries = All-map (λ pair. IsLabel pair.entry_zero × IsLabel pair.entry_one)
            (entry_pair_of (offset_of seed) g) (range_with_len 0 g.outputs)
            (λ k i within. (IsSmall-hash _ _, IsSmall-hash _ _));
        entry_pairs = length-entry_pairs (offset_of seed) g ∙ sym bits;
        spelled = refl;
      };
      labels = λ index bits small at. record {
        index = small;
        few_labels = omega (
          arith,
          length-encoded_from (sum (take index c.input_widths)) seed bits,
          first_wire-room c lawful index (length bits) at,
        );
        labels = All-map IsLabel _
            (zip (range_with_len (sum (take index c.input_widths)) (length bits)) bits)
            (λ k pair within. IsSmall-⊕ _ _ (input_label_of-lt seed _)
            (IsSmall-times _ (offset_of seed) (offset_of-lt seed)));
        spelled = refl;
      };
    }
