-- What evaluating a garbled circuit returns, honest rows and labels or not.
use Rattle.std.specs.Prelude.{◌≡◌, ℕ, ◌<◌, ◌≤◌, Bool, true, false, List, length, slice_get, slice_index, Some, Result, Ok, Err}
use Rattle.gc_netlist.specs.Circuit.{and_count}
use Rattle.gc_netlist.specs.Solution.{on_outputs}
use Rattle.gc_label.specs.Label.{colour}
use Rattle.gc_half.specs.Hash.{hash}
use Rattle.gc_half.specs.Entry.{output_tweak}
use Rattle.gc_half.specs.Evaluation.{IsEvaluation, decode}
use Rattle.gc_file.specs.declared.parts.Version.TheVariants.{Two}
use Rattle.gc_file.specs.declared.parts.EntryPair.{EntryPair}
use Rattle.gc_job.specs.declared.fault.EvalFault.{EvalFault}
use Rattle.gc_job.specs.declared.fault.EvalFault.TheVariants.{BadWorkers, UnknownOutputLabel, Memory}
use Rattle.gc_job.specs.Job.{JobParts}

-- the labels of a list, by place
abbrev pub labels_of : List ℕ → ℕ → ℕ
labels_of labels w = slice_index labels w

-- Entry s of a pair.
abbrev pub entry : EntryPair → Bool → ℕ
entry pair false = pair.entry_zero
entry pair true = pair.entry_one

-- The entries recognise this label of output i: its hash under the output's tweak is the entry of its colour.
pub record IsRecognised (and_gates : ℕ) (entries : List EntryPair) (i label : ℕ) : Type 0 where
  pub pair : EntryPair
  pub at : slice_get entries i ≡ Some pair
  pub same : hash label (output_tweak and_gates i) ≡ entry pair (colour label)

-- They recognise the labels of the first n outputs.
abbrev pub AreRecognised : ℕ → List EntryPair → List ℕ → ℕ → Type 0
AreRecognised and_gates entries labels n =
    (i label : ℕ) → i < n → slice_get labels i ≡ Some label → IsRecognised and_gates entries i label

-- This output is the first whose label they don't recognise.
pub record IsFirstUnknown (and_gates : ℕ) (entries : List EntryPair) (labels : List ℕ) (output : ℕ)
    : Type 0 where
  pub label : ℕ
  pub at : slice_get labels output ≡ Some label
  pub unknown : IsRecognised and_gates entries output label → ⊥
  pub before : AreRecognised and_gates entries labels output

-- This many of the first n outputs' labels come before the first that they don't recognise, or n where there is none.
pub record IsKnownUntil (and_gates : ℕ) (entries : List EntryPair) (labels : List ℕ) (n known : ℕ)
    : Type 0 where
  pub within : known ≤ n
  pub before : AreRecognised and_gates entries labels known
  pub next : known < n → IsFirstUnknown and_gates entries labels known

-- The active labels of a job's output wires are decoded: to bits, or to the first output whose label is unknown. In
-- version 1 any label decodes. Memory may be missing instead. No number of workers is at fault.
abbrev pub IsDecodingOf : JobParts → List ℕ → Result (List Bool) EvalFault → Type 0
IsDecodingOf job labels (Ok bits) =
    (bits ≡ decode job.decode_bits labels)
    × (job.version ≡ Two → AreRecognised (and_count job.circuit) job.entries labels (length labels))
IsDecodingOf job labels (Err (UnknownOutputLabel output)) =
    (job.version ≡ Two) × IsFirstUnknown (and_count job.circuit) job.entries labels output
IsDecodingOf job labels (Err Memory) = Unit {0}
IsDecodingOf job labels (Err BadWorkers) = ⊥

-- A job is evaluated: the active labels on the output wires are decoded, in an evaluation of the job's rows on its
-- input labels.
pub record IsEvaluated (job : JobParts) (result : Result (List Bool) EvalFault) : Type 0 where
  pub active : ℕ → ℕ
  pub evaluation : IsEvaluation hash job.circuit job.rows (labels_of job.inputs) active
  pub decoding : IsDecodingOf job (on_outputs job.circuit active) result
