-- The active labels of a job meet the equations of the gates, and their halves are those of the words.
use Rattle.gc_steps.proofs.Names.{Bool, Result, ◌≡◌, ℕ, zero, suc, List, [], ◌∷◌, slice_get, get_or, Some, refl, sym, ◌∙◌, IsLawful, and_number, first_wire, second_wire, JobParts, IsWhole, labels_of, IsDecodingOf, IsEvaluated, active, set_of, active_from}
use Rattle.gc_netlist.specs.declared.gate.Gate.{Gate}
use Rattle.gc_job.specs.declared.fault.EvalFault.{EvalFault}
use Rattle.gc_netlist.specs.Solution.{on_outputs}
use Rattle.gc_steps.specs.Jobs.{IsRightHalf}
use mathlib.Core.Option.{some, some-injective, some-ne-none}
use lib.ListN.{get_elem?}
use Rattle.gc_netlist.specs.declared.gate.Operation.{Operation}
use Rattle.gc_netlist.specs.declared.gate.Operation.TheVariants.{Xor, And, Inv, Eq, Eqw}
use Rattle.gc_label.specs.Label.{label_of_halves}
use Rattle.gc_label.proofs.HalvesLemmas.{label_of_halves-halves}
use Rattle.gc_half.specs.Hash.{hash}
use Rattle.gc_half.specs.OneGate.{gate_active}
use Rattle.gc_half.specs.declared.garbling.RowPair.{RowPair}
use Rattle.gc_half.specs.Evaluation.{active_of, row_at, IsEvaluation}
use Rattle.gc_half.proofs.CanonicalLemmas.{active_labels-solve}

-- They are an evaluation.
pub active_solves : (job : JobParts) → IsLawful job.circuit
    → IsEvaluation hash job.circuit job.rows (labels_of job.inputs) (active job)
active_solves job lawful = active_labels-solve job.circuit job.rows job.inputs lawful

by_operation : (job : JobParts) (k a b : ℕ) (row : RowPair) (op : Operation)
    → ((w : ℕ) → first_wire op ≡ Some w → a ≡ active job w)
    → ((w : ℕ) → second_wire op ≡ Some w → b ≡ active job w)
    → gate_active hash k row op a b ≡ active_of hash (active job) k row op
by_operation job k a b row (Xor x y) p q = rw (p x refl, q y refl)
by_operation job k a b row (And x y) p q = rw (p x refl, q y refl)
by_operation job k a b row (Inv x) p q = p x refl
by_operation job k a b row (Eq v) p q = refl
by_operation job k a b row (Eqw x) p q = p x refl

-- From the active labels of the wires that a gate reads it gives that of the wire that it sets.
pub active_step : (job : JobParts) (g a b : ℕ) (gate : Gate) → IsLawful job.circuit
    → slice_get job.circuit.gates g ≡ Some gate → ((w : ℕ) → first_wire gate.operation ≡ Some w
    → a ≡ active job w)
    → ((w : ℕ) → second_wire gate.operation ≡ Some w → b ≡ active job w)
    → active_from job g a b ≡ active job (set_of job g)
active_step job g a b gate lawful at p q =
    let k = and_number job.circuit g in
    rw at (by_operation job k a b (row_at job.rows k) gate.operation p q
    ∙ sym ((active_solves job lawful).gates g gate at))

-- Two right halves are those of the label.
pub joined : (job : JobParts) (g low high : ℕ) → IsRightHalf job g 0 low → IsRightHalf job g 1 high
    → label_of_halves low high ≡ active job (set_of job g)
joined job g low high l h = rw (l.1, h.1, label_of_halves-halves _ l.0)

pub word_is : (ws : List ℕ) (i n : ℕ) → get_elem? ws i ≡ some n → get_or ws i 0 ≡ n
word_is [] i n e = absurd (some-ne-none n (sym e))
word_is (x ∷ xs) zero n e = some-injective x n e
word_is (x ∷ xs) (suc i) n e = word_is xs i n e

-- The job is evaluated where the active labels of its output wires are decoded.
pub evaluated_outputs : (job : JobParts) (labels : List ℕ) (result : Result (List Bool) EvalFault)
    → IsWhole job → labels ≡ on_outputs job.circuit (active job) → IsDecodingOf job labels result
    → IsEvaluated job result
evaluated_outputs job labels result whole is decoding = record {
  active = active job;
  evaluation = active_solves job whole.lawful;
  decoding = rw is at decoding;
}
