-- What a closed board says.
use Rattle.std.specs.Prelude.{◌≡◌, ℕ, ◌+◌, ◌<◌, ◌≤◌, ◌⊎◌, List}
use Rattle.std.specs.Slots.{slots_items}
use Rattle.std.specs.List.{range_with_len}
use Rattle.gc_netlist.specs.Circuit.{IsSetBy, input_wires, output_wires}
use Rattle.gc_workers.specs.declared.states.TheConstants.{DONE}
use Rattle.gc_gates.specs.Layout.{one_round}
use Rattle.gc_gates.specs.Gates as gates
use Rattle.gc_workers.specs.Counts.{total, only}
use Rattle.gc_job.specs.Job.{JobParts}
use Rattle.gc_eval.specs.declared.active.Active.{Active}

-- the job of a closed board
abbrev pub job_in : {A B C : Type 0} → Active B A C → JobParts
job_in active = active.job.now

-- its words, as on a board
abbrev pub board_words : {A B C : Type 0} → Active B A C → List ℕ
board_words active = slots_items active.closed.words

-- the state word of gate g
abbrev pub state_of : List ℕ → ℕ → ℕ
state_of words g = gates.state_of one_round words 0 g

-- Gate g is done.
abbrev pub IsDone : {A B C : Type 0} → Active B A C → ℕ → Type 0
IsDone active g = state_of (board_words active) g ≡ DONE

-- how many of the first n gates are done
abbrev pub done_of : {A B C : Type 0} → Active B A C → ℕ → ℕ
done_of active n =
    total (λ g. only DONE (state_of (board_words active) g)) (range_with_len 0 n)

-- A wire has a label: it is an input wire, or a gate that is done sets it.
abbrev pub HasLabel : {A B C : Type 0} → Active B A C → ℕ → Type 0
HasLabel active w =
    (w < input_wires (job_in active).circuit) ⊎ ((g : ℕ) × IsSetBy (job_in active).circuit w g
    × IsDone active g)

-- Wire w is an output wire.
abbrev pub IsOutput : JobParts → ℕ → Type 0
IsOutput job w = (job.circuit.wires ≤ w + output_wires job.circuit) × (w < job.circuit.wires)

-- Each output wire has a label.
abbrev pub HasOutputs : {A B C : Type 0} → Active B A C → Type 0
HasOutputs active = (w : ℕ) → IsOutput (job_in active) w → HasLabel active w

-- An output wire has none.
abbrev pub LacksOutput : {A B C : Type 0} → Active B A C → Type 0
LacksOutput active = (w : ℕ) × IsOutput (job_in active) w × (HasLabel active w → ⊥)
