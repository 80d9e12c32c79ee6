-- Honest files are bound to an honest job.
use Rattle.gc_job.proofs.Names.{◌≡◌, ℕ, suc, ◌+◌, Bool, List, [], ◌∷◌, length, map, sum, take, drop, flat_map, slice_get, Some, Result, MatchResult, refl, sym, ap, ◌∙◌, arith, slice_get-map, slice_get_within, same_Some, sum-map, sum_by-cons, length-flat_map, Netlist, IsLawful, AreOutputs, GarbledParts, LabelFileParts, encoded_from, EvalFault, Memory, JobParts, IsEvaluated, HasCounts, LabelsFault, no_such_value, wrong_width, double_value, of_file, missing_value, FirstBindFault, other_circuit, other_counts, of_labels, IsBound, IsHonest, AreHonestFiles, HonestFilesLaw, length-drop, length-map, take-append-drop, drop-drop}
use Rattle.gc_file.proofs.ByteLemmas.{length-decode_bits}
use Rattle.gc_file.proofs.DealLemmas.{encoded_from-append, length-encoded_from}
use Rattle.gc_job.specs.declared.fault.BindFault.{BindFault}
use Rattle.gc_job.proofs.TakeLemmas.{slice_get_taken}
use Rattle.gc_job.proofs.HonestLemmas.{honest-evaluates}
use Rattle.gc_job.proofs.OutputLemmas.{bound-whole}

-- Labels that are those of the bits of each value, from that value's first wire on, are those of
-- all bits.
joined-labels : (seed : List ℕ) (values : List (List Bool)) (first : ℕ) (labels : List ℕ)
    → length labels ≡ sum (map length values)
    → ((k : ℕ) (bits : List Bool) → slice_get values k ≡ Some bits →
    take (length bits) (drop (sum (take k (map length values))) labels)
    ≡ encoded_from (first + sum (take k (map length values))) seed bits)
    → labels ≡ encoded_from first seed (flat_map (λ value. value) values)
joined-labels seed [] first [] count at = refl
joined-labels seed [] first (l ∷ ls) count at = absurd (omega arith)
joined-labels seed (bits ∷ values) first labels count at =
    let w : ℕ = length bits in
    sym (take-append-drop w labels)
    ∙ rw (
      let e : take w labels ≡ encoded_from first seed bits =
          at 0 bits refl ∙ ap (λ n. encoded_from n seed bits) (omega arith) in e,
      joined-labels seed values (first + w) (drop w labels)
          (omega (arith, length-drop w labels, count, sum_by-cons (λ m. m) w (map length values)))
          rest,
    ) (sym (encoded_from-append seed first bits (flat_map (λ value. value) values)))
  where
    rest : (k : ℕ) (others : List Bool) → slice_get values k ≡ Some others →
        take (length others) (drop (sum (take k (map length values))) (drop (length bits) labels))
        ≡ encoded_from (first + length bits + sum (take k (map length values))) seed others
    rest k others at_k =
        let before : ℕ = sum (take k (map length values)) in
        let more = sum_by-cons (λ m. m) (length bits) (take k (map length values)) in
        let from : first + sum (length bits ∷ take k (map length values))
        ≡ first + length bits + before = omega (arith, more) in
        rw (drop-drop before (length bits) labels, ← more, ← from) (at (suc k) others at_k)

module _ (c : Netlist) (lawful : IsLawful c) (seed : List ℕ) (values : List (List Bool))
    (g : GarbledParts) (files : List LabelFileParts)
    (honest : AreHonestFiles c seed values g files) where
  counts : HasCounts c g
  counts =
      let is = honest.garbled.garbled in
      rw honest.garbled.parts (record {
        rows = is.garbling.row_count;
        decode_bits = length-decode_bits honest.garbled.garbling
            (omega (arith, lawful.outputs_fit)) ∙ is.outputs;
      })

  -- Each file has the width of its value.
  width : (i : ℕ) (file : LabelFileParts) → slice_get files i ≡ Some file
      → slice_get c.input_widths file.index ≡ Some (length file.labels)
  width i file at =
      let labels = honest.labels i file at in
      rw (← honest.fits, slice_get-map length values file.index, labels.value)
      (ap Some (sym (ap (λ (f : LabelFileParts). length f.labels) labels.parts
      ∙ length-encoded_from _ seed labels.bits)))

  no-labels-fault : (i : ℕ) (file : LabelFileParts) (fault : BindFault)
      → slice_get files i ≡ Some file →
      LabelsFault c.input_widths (take i files) file fault → ⊥
  no-labels-fault i file _ at (no_such_value past) =
      let inside = slice_get_within c.input_widths file.index (length file.labels)
      (width i file at) in omega arith
  no-labels-fault i file _ at (wrong_width other is differs) =
      differs (same_Some (length file.labels) other (sym (width i file at) ∙ is))
  no-labels-fault i file _ at (double_value is has) =
      let before = slice_get_taken i has.place files has.file has.at in
      let same = honest.once i has.place file has.file at before.1 (sym has.index) in
      omega (arith, before.0)

  no-bind-fault : (fault : BindFault) → FirstBindFault c g files fault → ⊥
  no-bind-fault _ (other_circuit none) =
      none (ap (λ (p : GarbledParts). p.digest) honest.garbled.parts)
  no-bind-fault _ (other_counts is none) = none counts
  no-bind-fault _ (of_labels _ is has (of_file i file fault before at has_fault)) =
      no-labels-fault i file fault at has_fault
  no-bind-fault _ (of_labels _ is has (missing_value value in_order inside none)) =
      none (honest.each value (omega (arith, length-map values length, ap length honest.fits)))

  bound-inputs : (job : JobParts) → IsBound c g files job
      → job.inputs ≡ encoded_from 0 seed (flat_map (λ value. value) values)
  bound-inputs job bound =
      joined-labels seed values 0 job.inputs (bound.labels.count ∙ ap sum (sym honest.fits)) at
    where
      at : (k : ℕ) (bits : List Bool) → slice_get values k ≡ Some bits →
          take (length bits) (drop (sum (take k (map length values))) job.inputs)
          ≡ encoded_from (0 + sum (take k (map length values))) seed bits
      at k bits at_k =
          let has = honest.each k (slice_get_within values k bits at_k) in
          let labels = honest.labels has.place has.file has.at in
          let same : labels.bits ≡ bits =
          same_Some labels.bits bits (sym labels.value ∙ rw has.index at_k) in
          let first : sum (take has.file.index c.input_widths)
          ≡ sum (take k (map length values)) = rw (has.index, honest.fits) refl in
          let file : has.file.labels ≡ encoded_from (sum (take k (map length values))) seed bits =
          ap (λ (f : LabelFileParts). f.labels) labels.parts ∙ rw (first, same) refl in
          let long : length has.file.labels ≡ length bits =
          ap length file ∙ length-encoded_from _ seed bits in
          rw (← long, ← first) (bound.labels.from_files has.place has.file has.at)
          ∙ file ∙ ap (λ n. encoded_from n seed bits) (omega arith)

  bound-honest : (job : JobParts) → IsBound c g files job
      → IsHonest job seed (flat_map (λ value. value) values)
  bound-honest job bound =
      let is = honest.garbled in
      rw (bound.parts, is.parts) (record {
        garbling = is.garbling;
        garbled = is.garbled;
        rows = refl;
        decode_bits = refl;
        entries = refl;
        fits = length-flat_map (λ value. value) values ∙ sym (sum-map length values)
            ∙ ap sum honest.fits;
        inputs = bound-inputs job bound;
      })

  -- So its evaluation returns the circuit's outputs.
  bound-outputs : (job : JobParts) → IsBound c g files job → (result : Result (List Bool) EvalFault)
      → IsEvaluated job result →
      MatchResult result (AreOutputs c (flat_map (λ value. value) values)) (λ fault. fault ≡ Memory)
  bound-outputs job bound result is =
      rw (ap (λ (j : JobParts). j.circuit) bound.parts) at
      (honest-evaluates job (bound-whole c lawful g files job bound) seed
      (flat_map (λ value. value) values) (bound-honest job bound) result is)

  pub honest-files : HonestFilesLaw c seed values g files
  honest-files =
      record { no_fault = no-bind-fault; honest = bound-honest; outputs = bound-outputs }
