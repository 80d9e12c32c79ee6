-- From what each step of `jobs` returns to what it returns as a whole.
use Rattle.gc_command.proofs.Names.{◌≡◌, ℕ, ◌+◌, ◌<◌, map, drop, drop-cons, get_or, Bool, List, [], ◌∷◌, IfSome, sum, inl, inr, length, slice_get, Some, sym, ap, ◌∙◌, zero, suc, refl, add-one, arith, slice_get_within, slice_get_cases, JobParts, AreOnOneCircuit, FileBytes, GivesFile, Fault, IsJobList, listed, NameJob, NameJobs, FirstBadJob, HasLinesFault, HasListFault, HasJobsFault, All, slice_index_or, Netlist, IsLawful, IsCircuit, HasReadingFault}
use Rattle.gc_job.specs.Jobs.{AreEvaluated}
use Rattle.gc_command.specs.declared.fault.Fault.TheVariants as faults
use Rattle.gc_command.proofs.AnswerLemmas.{length-decoded}

-- The words of a line are the first one and the others.
pub parted : {X : Type 0} {words shown others : List X} {first : X} → shown ≡ words
    → shown ≡ first ∷ others → (v : X → List ℕ) {line : List (List ℕ)} → map v words ≡ line
    → line ≡ v first ∷ map v others
parted same parts v are = sym are ∙ ap (map v) (sym same ∙ parts)

module _ (bytes : FileBytes) (Failed : List ℕ → Type 0) where
  -- The fault of the first line that names no job is that of the lines,
  pub lines-fault : (c : Netlist) (lines : List (List (List ℕ))) (fault : Fault)
      → FirstBadJob bytes Failed c lines fault → HasLinesFault bytes Failed c lines fault
  lines-fault c lines (faults.File fault) bad = bad
  lines-fault c lines (faults.Binding fault) bad = bad
  lines-fault c lines faults.CannotRead bad = bad
  lines-fault c lines faults.Memory bad = tt
  lines-fault c [] fault bad = absurd bad
  lines-fault c (words ∷ lines) fault (inl here) = absurd here
  lines-fault c (words ∷ lines) fault (inr later) = absurd (lines-fault c lines fault later.2)

  -- that of the lines of a list is the list's,
  pub list-fault : (list text : List ℕ) (c : Netlist) → GivesFile (bytes list) text → IsJobList text
      → (fault : Fault) → HasLinesFault bytes Failed c (listed text) fault
      → HasListFault bytes Failed list c fault
  list-fault list text c read is (faults.File fault) has =
      record { text = text; text_read = read; is_list = is; first = has }
  list-fault list text c read is (faults.Binding fault) has =
      record { text = text; text_read = read; is_list = is; first = has }
  list-fault list text c read is faults.CannotRead has =
      inr record { text = text; text_read = read; is_list = is; first = has }
  list-fault list text c read is faults.Memory has = tt
  list-fault list text c read is fault has = absurd has

  module _ (circuit list : List ℕ) (workers : ℕ) where
    -- and that of a list and its jobs is that of the command,
    pub jobs-list-fault : (c : Netlist) → IfSome (bytes circuit) (λ held. IsCircuit held c)
        → (fault : Fault) → HasListFault bytes Failed list c fault
        → HasJobsFault bytes Failed circuit list workers fault
    jobs-list-fault c read faults.CannotRead has = inr (c, read, has)
    jobs-list-fault c read faults.Memory has = tt
    jobs-list-fault c read (faults.Circuit fault) has = absurd has
    jobs-list-fault c read (faults.Evaluation fault) has = absurd has
    jobs-list-fault c read fault has = (c, read, has)

    -- as is that of the circuit's file.
    pub jobs-circuit-fault : (fault : Fault)
        → HasReadingFault (bytes circuit) (Failed circuit) fault
        → HasJobsFault bytes Failed circuit list workers fault
    jobs-circuit-fault (faults.Circuit fault) has = has.first
    jobs-circuit-fault faults.CannotRead has = inl has.cause
    jobs-circuit-fault faults.Memory has = tt
    jobs-circuit-fault fault has = absurd has.kind

-- What the lines from one on name, it and those after it name.
pub line-next : {X : Type 0} (v : X → List (List ℕ)) (lines : List X) (i : ℕ) (d : X)
    → i < length lines → map v (drop i lines) ≡ v (get_or lines i d) ∷ map v (drop (i + 1) lines)
line-next v lines i d within = rw (drop-cons lines i d within, add-one i) refl

-- Each job is one that its line names.
named_at : (bytes : FileBytes) (c : Netlist) (lines : List (List (List ℕ))) (jobs : List JobParts)
    → NameJobs bytes c lines jobs → (k : ℕ) (job : JobParts) → slice_get jobs k ≡ Some job
    → (words : List (List ℕ)) × NameJob bytes c words job
named_at bytes c (words ∷ lines) (other ∷ jobs) named zero job at =
    let same : job ≡ other = cc in (words, rw same named.0)
named_at bytes c (words ∷ lines) (other ∷ jobs) named (suc k) job at =
    named_at bytes c lines jobs named.1 k job at
named_at bytes c [] [] named k job at = absurd cc
named_at bytes c _ _ named k job at = absurd named

module _ (bytes : FileBytes) (c : Netlist) (lines : List (List (List ℕ))) (jobs : List JobParts)
    (named : NameJobs bytes c lines jobs) where
  named_on : (k : ℕ) (job : JobParts) → slice_get jobs k ≡ Some job → job.circuit ≡ c
  named_on k job at =
      ap (λ (j : JobParts). j.circuit) (named_at bytes c lines jobs named k job at).1.bound.parts

  -- Jobs that lines name are all on the circuit,
  pub named_on_one : AreOnOneCircuit jobs
  named_on_one i k a b a_at b_at = named_on i a a_at ∙ sym (named_on k b b_at)

  -- and the bits of each have the output widths.
  pub length-listed : IsLawful c → (outputs : List (List Bool)) → AreEvaluated jobs outputs
      → (k : ℕ) (bits : List Bool) → slice_get outputs k ≡ Some bits
      → sum c.output_widths ≡ length bits
  length-listed lawful outputs are k bits at =
      elim (slice_get_cases jobs k).1 [
        | inl (job, within, found, same) ↦
            let is = named_at bytes c lines jobs named k job found in
            length-decoded c lawful is.1.g is.1.files bits
            record { job = job; bound = is.1.bound; evaluated = are.each k job bits found at }
        | inr past ↦ absurd (omega (arith, past.0, slice_get_within outputs k bits at, are.count))
      ]

-- There are as many jobs as lines.
pub named_count : (bytes : FileBytes) (c : Netlist) (lines : List (List (List ℕ)))
    (jobs : List JobParts) → NameJobs bytes c lines jobs → length jobs ≡ length lines
named_count bytes c [] [] named = refl
named_count bytes c (words ∷ lines) (job ∷ jobs) named =
    ap suc (named_count bytes c lines jobs named.1)
named_count bytes c _ _ named = absurd named

-- The words of the only line,
pub only-words : {X : Type 0} (words_of : X → List (List ℕ)) (lines : List X) (d : X)
    → 0 < length lines → All (λ words. 0 < length words) (map words_of lines)
    → 0 < length (words_of (slice_index_or lines 0 d))
only-words words_of [] d some all = absurd (omega (arith, some))
only-words words_of (line ∷ lines) d some all = all 0 [] (omega arith)

-- and the only job, which they name.
pub only-named : {X : Type 0} (bytes : FileBytes) (c : Netlist) (words_of : X → List (List ℕ))
    (lines : List X) (d : X) (job : JobParts) → 0 < length lines → length lines < 2
    → NameJob bytes c (words_of (slice_index_or lines 0 d)) job
    → NameJobs bytes c (map words_of lines) (job ∷ [])
only-named bytes c words_of [] d job some few named = absurd (omega (arith, some))
only-named bytes c words_of (line ∷ []) d job some few named = (named, tt)
only-named bytes c words_of (line ∷ next ∷ lines) d job some few named =
    absurd (omega (arith, few))
