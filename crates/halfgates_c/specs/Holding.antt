-- What handles hold.
use Rattle.std.specs.Prelude.{◌≡◌, ◌⊎◌, ℤ, pos, Bool, MatchBool, Option, Some, None, List, [], ◌∷◌}
use Rattle.gc_netlist.specs.Circuit.{Netlist}
use Rattle.gc_job.specs.Job.{JobParts}
use Rattle.gc_kept.specs.Circuit.{CircuitWith}
use Rattle.gc_kept.specs.Garbling.{GarblingWith}
use Rattle.gc_kept.specs.Garbler.{GarblerWith}
use Rattle.gc_kept.specs.Evaluator.{EvaluatorWith}
use Rattle.gc_kept.specs.declared.held.Held.{Held}
use Rattle.gc_kept.specs.declared.held.Held.TheVariants.{Circuit, Garbling, Job, Garbler, Evaluator}
use Rattle.halfgates_c.specs.declared.slot.Slot.{Slot}

-- The code is what a call on a circuit says of it, or 64 for a null, and 65 for a handle of another type.
abbrev pub OfKept : Option Held → (code : ℤ) → (CircuitWith → Type 0) → Type 0
OfKept None code P = code ≡ pos 64
OfKept (Some (Circuit circuit)) code P = P circuit
OfKept (Some _) code P = code ≡ pos 65

-- The same where it says nothing of the digest,
abbrev pub OfCircuit : Option Held → (code : ℤ) → (Netlist → Type 0) → Type 0
OfCircuit held code P = OfKept held code (λ c. P c.netlist)

-- and where it needs the digest: 68 where there is none.
abbrev pub OfDigested : Option Held → (code : ℤ) → (Netlist → Type 0) → Type 0
OfDigested held code P =
    OfKept held code (λ c. MatchBool c.has_digest (P c.netlist) (code ≡ pos 68))

-- The same of a garbling,
abbrev pub OfGarbling : Option Held → (code : ℤ) → (GarblingWith → Type 0) → Type 0
OfGarbling None code P = code ≡ pos 64
OfGarbling (Some (Garbling garbling)) code P = P garbling
OfGarbling (Some _) code P = code ≡ pos 65

-- of a job,
abbrev pub OfJob : Option Held → (code : ℤ) → (JobParts → Type 0) → Type 0
OfJob None code P = code ≡ pos 64
OfJob (Some (Job job)) code P = P job
OfJob (Some _) code P = code ≡ pos 65

-- of a garbler,
abbrev pub OfGarbler : Option Held → (code : ℤ) → (GarblerWith → Type 0) → Type 0
OfGarbler None code P = code ≡ pos 64
OfGarbler (Some (Garbler garbler)) code P = P garbler
OfGarbler (Some _) code P = code ≡ pos 65

-- and of an evaluator.
abbrev pub OfEvaluator : Option Held → (code : ℤ) → (EvaluatorWith → Type 0) → Type 0
OfEvaluator None code P = code ≡ pos 64
OfEvaluator (Some (Evaluator evaluator)) code P = P evaluator
OfEvaluator (Some _) code P = code ≡ pos 65

-- The code is what a call on a list of things says of them, or that of the first handle in the list that holds none.
-- What is said of one handle is `OfGarbling` or `OfJob`.
abbrev pub OfHandles : {X : Type 0} → (Option Held → (code : ℤ) → (X → Type 0) → Type 0)
    → List (Option Held) → (code : ℤ) → (List X → Type 0) → Type 0
OfHandles OfOne [] code P = P []
OfHandles OfOne (held ∷ others) code P =
    OfOne held code (λ it. OfHandles OfOne others code (λ things. P (it ∷ things)))

-- The same of garblings, or 62 where memory is missing for the list,
abbrev pub OfGarblings : List (Option Held) → (code : ℤ) → (List GarblingWith → Type 0) → Type 0
OfGarblings held code P = (code ≡ pos 62) ⊎ OfHandles OfGarbling held code P

-- and of jobs.
abbrev pub OfJobs : List (Option Held) → (code : ℤ) → (List JobParts → Type 0) → Type 0
OfJobs held code P = (code ≡ pos 62) ⊎ OfHandles OfJob held code P

-- A handle in the list holds no garbling, or memory is missing,
abbrev pub OfNoGarblings : List (Option Held) → (code : ℤ) → Type 0
OfNoGarblings held code = OfGarblings held code (λ garblings. ⊥)

-- or no job.
abbrev pub OfNoJobs : List (Option Held) → (code : ℤ) → Type 0
OfNoJobs held code = OfJobs held code (λ jobs. ⊥)

-- The circuit that is held, if one is.
abbrev pub held_circuit : Option Held → Option Netlist
held_circuit None = None
held_circuit (Some (Circuit circuit)) = Some circuit.netlist
held_circuit (Some _) = None

-- C's pointer is to a handle that holds this.
abbrev pub Holds : Slot → Held → Type 0
Holds slot held = slot.held ≡ Some held

-- What is held is this circuit, with its digest or without.
abbrev pub IsHeldCircuit : Option Held → Netlist → (has_digest : Bool) → Type 0
IsHeldCircuit held c has_digest = held ≡ Some (Circuit (record
    { netlist = c; has_digest = has_digest }))
