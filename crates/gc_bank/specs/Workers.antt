-- The workers of an evaluation of a list of jobs.
use Rattle.std.specs.Prelude.{◌≡◌, ℕ, ◌+◌, ◌<◌, Bool, List, All, Option, Some, Vec, IfSome, length, slice_get, slice_index_or}
use Rattle.gc_rounds.specs.declared.view.Position.{Position}
use Rattle.gc_rounds.specs.declared.view.Position.TheVariants.{Outside}
use Rattle.gc_netlist.specs.Solution.{on_outputs}
use Rattle.gc_job.specs.Job.{JobParts}
use Rattle.gc_job.specs.ActiveLabels.{active}
use Rattle.gc_job.specs.Jobs.{AreBitsOf}
use Rattle.gc_bank.specs.Rounds.{gates_of_each}
use Rattle.gc_bank.specs.Seats.{IsSeatOf, view, jobs_on}
use Rattle.gc_bank.specs.declared.seat.Banks.{Banks}
use Rattle.gc_bank.specs.declared.worker.RoundOutputs.{RoundOutputs}
use Rattle.gc_bank.specs.declared.worker.Worker.{Worker}

-- The labels are the active ones of the output wires of the job at this place.
abbrev pub AreOutputLabelsOf : List JobParts → ℕ → List ℕ → Type 0
AreOutputLabelsOf jobs k labels =
    (job : JobParts) → slice_get jobs k ≡ Some job → labels ≡ on_outputs job.circuit (active job)

-- The output bits that a worker kept are those of their round's job.
abbrev pub HasRoundBits : {B : Type 0} → List JobParts → RoundOutputs B → Type 0
HasRoundBits jobs kept = AreBitsOf jobs kept.round kept.bits.items

module _ {A B C : Type 0} where
  -- The worker has a seat of these banks, which is here, it walks over the gates of their circuit, and what it kept is
  -- right.
  pub record IsWorkerAt (banks : Banks B A C) (here : Position) (worker : Worker B A C)
      : Type 0 where
    pub seat_of : IsSeatOf banks worker.seat
    pub position_is : (view worker.seat).position ≡ here
    pub gates : worker.walk.gates ≡ gates_of_each (jobs_on banks)
    pub kept : All (HasRoundBits (jobs_on banks)) worker.kept.items

  -- Between two rounds its seat is outside.
  abbrev pub IsWorkerOf : Banks B A C → Worker B A C → Type 0
  IsWorkerOf banks worker = IsWorkerAt banks Outside worker

  abbrev pub AreWorkersOf : Banks B A C → List (Worker B A C) → Type 0
  AreWorkersOf banks workers = All (IsWorkerOf banks) workers

-- The bits at each place of a list, where there are any, are those of the job there, counted from this one on.
abbrev pub AreKnownFrom : {B : Type 0} → List JobParts → ℕ → List (Option (Vec Bool B)) → Type 0
AreKnownFrom jobs start slots =
    (k : ℕ) (d : Option (Vec Bool _)) → k < length slots
    → IfSome (slice_index_or slots k d) (λ bits. AreBitsOf jobs (start + k) bits.items)
