-- The active labels of a job.
use Rattle.std.specs.Prelude.{ℕ, length, slice_get, Option, Some, None}
use Rattle.gc_netlist.specs.declared.gate.Gate.{Gate}
use Rattle.gc_netlist.specs.Circuit.{and_number}
use Rattle.gc_half.specs.Hash.{hash}
use Rattle.gc_half.specs.declared.garbling.RowPair.{RowPair}
use Rattle.gc_half.specs.OneGate.{gate_active}
use Rattle.gc_half.specs.Evaluation.{row_at}
use Rattle.gc_half.specs.Canonical.{active_label_of}
use Rattle.gc_job.specs.Job.{JobParts}

-- how many gates the job's circuit has
abbrev pub gates_of : JobParts → ℕ
gates_of job = length job.circuit.gates

-- The active label of each wire, in an evaluation of the job's rows on its input labels.
abbrev pub active : JobParts → ℕ → ℕ
active job = active_label_of job.circuit job.rows job.inputs

-- the wire that a gate sets
abbrev pub set_by : Option Gate → ℕ
set_by (Some g) = g.set
set_by None = 0

abbrev pub set_of : JobParts → ℕ → ℕ
set_of job g = set_by (slice_get job.circuit.gates g)

-- The label that a gate gives, from the labels of the wires that it reads first and second. One that it doesn't read is
-- ignored.
abbrev pub label_by : ℕ → RowPair → Option Gate → ℕ → ℕ → ℕ
label_by k row None a b = 0
label_by k row (Some g) a b = gate_active hash k row g.operation a b

abbrev pub active_from : JobParts → ℕ → ℕ → ℕ → ℕ
active_from job g a b =
    label_by (and_number job.circuit g) (row_at job.rows (and_number job.circuit g))
    (slice_get job.circuit.gates g) a b
