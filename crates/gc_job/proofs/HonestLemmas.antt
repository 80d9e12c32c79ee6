-- An honest job evaluates to the outputs of its circuit.
use Rattle.gc_job.proofs.Names.{◌≡◌, ℕ, ◌+◌, ◌-◌, ◌<◌, Bool, true, false, List, length, get_or, slice_get, Some, Result, Ok, Err, MatchResult, refl, sym, ap, ◌∙◌, arith, range_with_len, zip, length-range_with_len, get_or-range_with_len, length-map-range_with_len, slice_get_read, length-zip, get_or-zip, output_wires, and_count, solution, on_outputs, xor, bits_of, bit_rule, IsAssignment, AreOutputs, solution_solves, read-table, colour, hash, label_of_colour, output_tweak, entry_of, IsEvaluation, encode, decode, encoded_from, EvalFault, BadWorkers, UnknownOutputLabel, Memory, JobParts, IsWhole, labels_of, entry, IsRecognised, IsEvaluated, IsHonest, result_map_both, get_or-map}
use Rattle.gc_circuit.proofs.BitLemmas.{bit_local}
use Rattle.gc_label.specs.Seed.{offset_of, input_label_of}
use Rattle.gc_label.proofs.SeedLemmas.{colour-offset_of}
use Rattle.gc_half.specs.Garbling.{GarblingParts}
use Rattle.gc_half.specs.Canonical.{zero_label_of, row_pairs_of, garbling_of}
use Rattle.gc_half.specs.Law.{Decodes}
use Rattle.gc_half.proofs.HalfGateLaw.{colour-encode}
use Rattle.gc_half.proofs.CanonicalLemmas.{IsGarbled-same, IsGarbled-decode_bits, length-row_pairs_of, canonical-decodes}
use Rattle.gc_file.specs.declared.parts.Version.TheVariants.{Two}
use Rattle.gc_file.specs.Written.{entry_pair_of, entry_pairs_of}
use Rattle.gc_job.proofs.OutputLemmas.{output-at}

-- The label that stands for a bit on an input wire.
encoded-at : (seed : List ℕ) (bits : List Bool) (w : ℕ) → w < length bits
    → get_or (encoded_from 0 seed bits) w 0 ≡ encode (offset_of seed) (input_label_of seed w)
    (bits_of bits w)
encoded-at seed bits w room =
    let wires : List ℕ = range_with_len 0 (length bits) in
    let long = length-range_with_len 0 (length bits) in
    get_or-map (λ (p : ℕ × Bool). encode (offset_of seed) (input_label_of seed p.0) p.1)
    (zip wires bits) w (0, false) 0 (rw length-zip (omega arith))
    ∙ rw (
      get_or-zip wires bits w (0, false) (omega arith) room,
      get_or-range_with_len 0 (length bits) w 0 room,
      let e : 0 + w ≡ w = omega arith in e,
    ) refl

-- The label of a wire that has the colour of the label that stands for a bit is that label.
label_of_colour-encode : (r zero_label : ℕ) (x : Bool) → colour r ≡ true →
    label_of_colour r zero_label (colour (encode r zero_label x)) ≡ encode r zero_label x
label_of_colour-encode r zero_label x odd =
    ap (λ b. encode r zero_label (xor (colour zero_label) b)) (colour-encode r zero_label x odd)
    ∙ ap (encode r zero_label) (twice (colour zero_label) x)
  where
    twice : (p x : Bool) → xor p (xor x p) ≡ x
    twice p x = grind arith

-- So the entry of its colour is its hash.
entry-known : (r : ℕ) (g : GarblingParts) (i label : ℕ) (x : Bool) → colour r ≡ true
    → label ≡ encode r (get_or g.zero_labels (length g.zero_labels - g.outputs + i) 0) x →
    hash label (output_tweak (length g.rows) i) ≡ entry (entry_pair_of r g i) (colour label)
entry-known r g i label x odd stands =
    ap (λ l. hash l (output_tweak (length g.rows) i))
    (rw stands (sym (label_of_colour-encode r _ x odd)))
    ∙ either (colour label)
  where
    either : (s : Bool) → entry_of r g i s ≡ entry (entry_pair_of r g i) s
    either s = grind arith

module _ (job : JobParts) (whole : IsWhole job) (seed : List ℕ) (bits : List Bool)
    (honest : IsHonest job seed bits) where
  -- The garbling is the circuit's.
  garbling-same : honest.garbling ≡ garbling_of job.circuit seed
  garbling-same = IsGarbled-same job.circuit seed whole.lawful honest.garbling honest.garbled

  assignment : IsAssignment job.circuit (bits_of bits)
      (solution bit_rule job.circuit (bits_of bits))
  assignment = solution_solves bit_rule bit_local job.circuit whole.lawful (bits_of bits)

  entries-are : job.version ≡ Two
      → job.entries ≡ entry_pairs_of (offset_of seed) (garbling_of job.circuit seed)
  entries-are two = honest.entries ∙ rw (two, garbling-same) refl

  module _ (active : ℕ → ℕ)
      (evaluation : IsEvaluation hash job.circuit job.rows (labels_of job.inputs) active) where
    -- An evaluation of the job is one of the garbling's rows on labels that stand for the bits,
    of_garbling : IsEvaluation hash job.circuit (row_pairs_of job.circuit seed)
        (λ w. encode (offset_of seed) (input_label_of seed w) (bits_of bits w)) active
    of_garbling =
        let rows : job.rows ≡ row_pairs_of job.circuit seed =
        honest.rows ∙ ap (λ (g : GarblingParts). g.rows) garbling-same in
        rw (← rows) (record {
          inputs = λ w input.
              evaluation.inputs w input ∙ ap (λ ls. get_or ls w 0) honest.inputs
              ∙ encoded-at seed bits w (omega (arith, honest.fits));
          gates = evaluation.gates;
        })

    -- so it decodes to the circuit's outputs,
    law : Decodes job.circuit (offset_of seed) (zero_label_of job.circuit seed)
        (solution bit_rule job.circuit (bits_of bits)) active
    law = canonical-decodes job.circuit seed whole.lawful (bits_of bits) _ assignment active
        of_garbling

    honest-outputs : (outputs : List Bool)
        → outputs ≡ decode job.decode_bits (on_outputs job.circuit active)
        → AreOutputs job.circuit bits outputs
    honest-outputs outputs is = record {
      bits = solution bit_rule job.circuit (bits_of bits);
      assignment = assignment;
      last = is
          ∙ rw (
            honest.decode_bits,
            IsGarbled-decode_bits job.circuit seed whole.lawful
                honest.garbling honest.garbled,
          ) law.outputs;
    }

    -- and the entries recognise each output label.
    honest-known : job.version ≡ Two → (i label : ℕ)
        → slice_get (on_outputs job.circuit active) i ≡ Some label →
        IsRecognised (and_count job.circuit) job.entries i label
    honest-known two i label at =
        let r : ℕ = offset_of seed in
        let g : GarblingParts = garbling_of job.circuit seed in
        let outputs : ℕ = output_wires job.circuit in
        let w : ℕ = job.circuit.wires - outputs + i in
        let x : Bool = solution bit_rule job.circuit (bits_of bits) w in
        let output = output-at job.circuit whole.lawful active i label at in
        let below : w < job.circuit.wires = omega (arith, output.0, whole.lawful.outputs_fit) in
        let stands : label ≡ encode r (zero_label_of job.circuit seed w) x =
        output.1 ∙ law.labels w (whole.lawful.outputs_set w (omega arith) below) in
        record {
          pair = entry_pair_of r g i;
          at = rw (entries-are two) (slice_get_read (entry_pairs_of r g) outputs i _
              (sym (length-map-range_with_len (entry_pair_of r g) 0 outputs)) output.0
              (sym (read-table (entry_pair_of r g) outputs i _ output.0)));
          same = rw (← length-row_pairs_of job.circuit seed whole.lawful)
              (entry-known r g i label x (colour-offset_of seed) (rw (
                length-map-range_with_len (zero_label_of job.circuit seed) 0 job.circuit.wires,
                read-table (zero_label_of job.circuit seed) job.circuit.wires w 0 below,
              ) stands));
        }

  pub honest-evaluates : (result : Result (List Bool) EvalFault) → IsEvaluated job result →
      MatchResult result (AreOutputs job.circuit bits) (λ fault. fault ≡ Memory)
  honest-evaluates (Ok outputs) is = honest-outputs is.active is.evaluation outputs is.decoding.0
  honest-evaluates (Err Memory) is = refl
  honest-evaluates (Err BadWorkers) is = absurd is.decoding
  honest-evaluates (Err (UnknownOutputLabel output)) is =
      let unknown = is.decoding.1 in
      absurd (unknown.unknown (honest-known is.active is.evaluation is.decoding.0 output
      unknown.label unknown.at))

-- The same of the bits in memory.
pub honest-result : {V : Type 0} (view : V → List Bool) (job : JobParts)
    (result : Result V EvalFault) → IsWhole job
    → IsEvaluated job (result_map_both view (λ (fault : EvalFault). fault) result)
    → (seed : List ℕ) (bits : List Bool) → IsHonest job seed bits → MatchResult result
    (λ outputs. AreOutputs job.circuit bits (view outputs)) (λ fault. fault ≡ Memory)
honest-result view job (Ok outputs) whole is seed bits honest =
    honest-evaluates job whole seed bits honest (Ok (view outputs)) is
honest-result view job (Err fault) whole is seed bits honest =
    honest-evaluates job whole seed bits honest (Err fault) is
