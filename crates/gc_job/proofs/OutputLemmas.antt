-- The labels of the output wires.
use Rattle.gc_job.proofs.Names.{◌≡◌, ℕ, ◌+◌, ◌-◌, ◌<◌, List, length, slice_get, Some, Bool, Result, Ok, Err, refl, sym, ◌∙◌, arith, length-map-range_with_len, get_or-map-range_with_len, length-zip, slice_get_within, get_or_from_slice_get, Netlist, output_wires, IsLawful, solution, on_outputs, solution_solves, hash, active_rule, EvalFault, Memory, GarbledParts, LabelFileParts, JobParts, IsWhole, IsBound, labels_of, IsDecodingOf, IsEvaluated, IfOk, result_map_both, length-map}
use Rattle.gc_half.proofs.CircuitLaw.{active_local}
use Rattle.gc_half.proofs.NumberedLemmas.{IsEvaluation-zero}
use Rattle.gc_half.specs.Joined.{AreOutputLabels}
use Rattle.gc_half.specs.declared.garbling.RowPair.{RowPair}

module _ (c : Netlist) (lawful : IsLawful c) (values : ℕ → ℕ) where
  pub length-outputs : (last : List ℕ) → last ≡ on_outputs c values → length last ≡ output_wires c
  length-outputs last is = rw (is, length-map-range_with_len values) refl

  -- The label of one of them.
  pub output-at : (i label : ℕ) → slice_get (on_outputs c values) i ≡ Some label
      → (i < output_wires c) × (label ≡ values (c.wires - output_wires c + i))
  output-at i label at =
      let outputs = output_wires c in
      let inside : i < outputs =
      rw (length-outputs (on_outputs c values) refl) at
      (slice_get_within (on_outputs c values) i label at) in (
        inside,
        sym (get_or_from_slice_get (on_outputs c values) i label 0 at)
            ∙ get_or-map-range_with_len values (c.wires - outputs) outputs i _ 0 inside refl,
      )

-- There is an output label for each output wire.
pub length-output_labels : (c : Netlist) (rows : List RowPair) (inputs labels : List ℕ)
    → AreOutputLabels 0 c rows inputs labels → length labels ≡ output_wires c
length-output_labels c rows inputs labels are =
    rw (are.last, length-map-range_with_len are.active) refl

-- A job is evaluated where its output labels are decoded,
pub decoded-job : (job : JobParts) (labels : List ℕ) (result : Result (List Bool) EvalFault)
    → AreOutputLabels 0 job.circuit job.rows job.inputs labels
    → IsDecodingOf job labels result → IsEvaluated job result
decoded-job job labels result are decoding = record {
  active = are.active;
  evaluation = IsEvaluation-zero hash job.circuit job.rows _ are.active are.evaluation;
  decoding = rw (← are.last) decoding;
}

-- and where memory is missing.
pub no_memory : (job : JobParts) → IsWhole job → IsEvaluated job (Err Memory)
no_memory job whole = record {
  active = solution (active_rule hash job.circuit job.rows) job.circuit (labels_of job.inputs);
  evaluation = solution_solves (active_rule hash job.circuit job.rows)
      (active_local hash job.circuit job.rows) job.circuit whole.lawful (labels_of job.inputs);
  decoding = tt;
}

-- A job that is bound is whole.
pub bound-whole : (c : Netlist) → IsLawful c → (g : GarbledParts) (files : List LabelFileParts)
    (job : JobParts) → IsBound c g files job → IsWhole job
bound-whole c lawful g files job bound = rw bound.parts (record {
  lawful = lawful;
  rows = bound.counts.rows;
  decode_bits = bound.counts.decode_bits;
  inputs = bound.labels.count;
})

-- An evaluation returns a bit for each output wire.
pub length-evaluated : (job : JobParts) → IsWhole job → (bits : List Bool)
    → IsEvaluated job (Ok bits) → length bits ≡ output_wires job.circuit
length-evaluated job whole bits is =
    let long = length-outputs job.circuit whole.lawful is.active _ refl in
    rw (is.decoding.0, length-map, length-zip) (omega (arith, long))

pub length-result : {V : Type 0} (bits_in : V → List Bool) (job : JobParts) → IsWhole job
    → (r : Result V EvalFault) → IsEvaluated job (result_map_both bits_in (λ fault. fault) r)
    → IfOk r (λ v. length (bits_in v) ≡ output_wires job.circuit)
length-result bits_in job whole (Ok v) is = length-evaluated job whole (bits_in v) is
length-result bits_in job whole (Err fault) is = tt
