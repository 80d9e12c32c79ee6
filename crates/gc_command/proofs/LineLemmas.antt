-- From the files of lines, as they are read and then made jobs, to the jobs that the lines name.
use Rattle.gc_command.proofs.Names.{◌≡◌, ℕ, zero, suc, ◌<◌, ◌++◌, map, take, drop, get_or, arith, true, false, List, [], ◌∷◌, inl, inr, length, sym, ap, ◌∙◌, refl, JobParts, FileBytes, FailedFiles, HasFailed, GivesFile, Fault, NameJob, HasNamedFault, NameJobs, FirstBadJob, HasLinesFault, get_or-take, take-append-drop, take-map, drop-map, Netlist, GarbledParts, IsGarbledFile, LabelFileParts, LineFiles, AreFilesGiven, AreLabelFiles, HasFilesFault, AreNamed, AreReadInTurn, MakeJob, HasBytesFault, HasBindingFault, MakeNoJob, MakeJobs, FirstMakeNoJob, HasMakingFault, are_whole, trailer_due}
use Rattle.std.proofs.lemmas.List as lists
use Rattle.gc_command.specs.declared.fault.Fault.TheVariants as faults
use Rattle.gc_command.specs.declared.line_files.LineFiles.TheVariants.{Unread, Unlabelled, Whole}
use Rattle.gc_command.proofs.AnswerLemmas.{found_where_known}
use Rattle.gc_command.proofs.EvalLemmas.{files-kind}
use Rattle.gc_command.proofs.JobsLemmas.{lines-fault}

-- The digest at the place of a line's files is the one that their trailer is to be.
pub trailer-at : {A : Type 0} (trailers : List (List ℕ)) (all : List (LineFiles A)) (i : ℕ)
    (files : LineFiles A) → take (length all) trailers ≡ map trailer_due all → i < length all
    → files ≡ get_or all i files → get_or trailers i [] ≡ trailer_due files
trailer-at trailers all i files are within same =
    sym (get_or-take (length all) trailers i [] within) ∙ ap (λ l. get_or l i []) are
    ∙ lists.get_or-map trailer_due all i files [] within ∙ sym (ap trailer_due same)

-- The first of what is left of a list, and the others.
pub next-left : {X : Type 0} (all : List X) (i : ℕ) (x : X) (more : List X) → drop i all ≡ x ∷ more
    → (i < length all) × (x ≡ get_or all i x) × (more ≡ drop (suc i) all)
next-left [] zero x more e = absurd (cc)
next-left [] (suc i) x more e = absurd (cc)
next-left (y ∷ all) zero x more e = (omega arith, cc, cc)
next-left (y ∷ all) (suc i) x more e =
    let later = next-left all i x more e in (omega (arith, later.0), later.1, later.2)

module _ (bytes : FileBytes) (Failed : List ℕ → Type 0) (c : Netlist) where
  -- The fault of reading files, that of a garbled file's bytes, and that of binding files are faults
  -- of the words that name them.
  pub reading-fault : (garbled : List ℕ) (labels : List (List ℕ)) (fault : Fault)
      → HasFilesFault bytes Failed garbled labels fault
      → HasNamedFault bytes Failed c (garbled ∷ labels) fault
  reading-fault garbled labels (faults.File fault) has = has
  reading-fault garbled labels faults.CannotRead has = has
  reading-fault garbled labels faults.Memory has = tt
  reading-fault garbled labels fault has = absurd (files-kind bytes Failed garbled labels fault has)

  bytes_fault : (garbled : List ℕ) (labels : List (List ℕ)) (held : List ℕ) (fault : Fault)
      → GivesFile (bytes garbled) held → HasBytesFault held fault
      → HasNamedFault bytes Failed c (garbled ∷ labels) fault
  bytes_fault garbled labels held (faults.File fault) given has =
      inl (λ other. found_where_known _ (bytes garbled) held given (has other))
  bytes_fault garbled labels held fault given has = absurd has

  pub binding-fault : (garbled : List ℕ) (labels : List (List ℕ)) (g : GarbledParts)
      (files : List LabelFileParts) (fault : Fault) → AreFilesGiven bytes garbled labels g files
      → HasBindingFault c g files fault → HasNamedFault bytes Failed c (garbled ∷ labels) fault
  binding-fault garbled labels g files (faults.Binding fault) given has =
      (g, (files, (record { garbled = _; labels = _; names = refl; given = given }, has)))
  binding-fault garbled labels g files fault given has = absurd has

  -- The files of a line are those that its words name,
  files_given : {garbled : List ℕ} {labels : List (List ℕ)} {g : GarbledParts}
      {files : List LabelFileParts} (held : List ℕ) → GivesFile (bytes garbled) held
      → IsGarbledFile held g → AreLabelFiles bytes labels files
      → AreFilesGiven bytes garbled labels g files
  files_given held given is labels_read =
      record { garbled_read = found_where_known _ _ held given is; labels_read = labels_read }

  -- the job that they make is the one that these name,
  named_job : {A : Type 0} (words : List (List ℕ)) (files : LineFiles A) (job : JobParts)
      → AreNamed bytes Failed words files → MakeJob c files job → NameJob bytes c words job
  named_job [] files job named made = absurd named
  named_job (garbled ∷ labels) (Whole held parts) job named made =
      let given = files_given held.items named.0 made.1 named.1 in
      record {
        g = made.0;
        files = parts.items;
        named = record { garbled = garbled; labels = labels; names = refl; given = given };
        bound = made.2;
      }
  named_job words files job named made = absurd made

  -- and the fault of files that make none is that of the words.
  named_fault : {A : Type 0} (words : List (List ℕ)) (files : LineFiles A) (fault : Fault)
      → AreNamed bytes Failed words files → MakeNoJob c files fault
      → HasNamedFault bytes Failed c words fault
  named_fault [] files fault named none = absurd named
  named_fault (garbled ∷ labels) (Unread first) fault named none =
      rw none (reading-fault garbled labels first (inl named))
  named_fault (garbled ∷ labels) (Unlabelled held first) fault named (inl bad) =
      bytes_fault garbled labels held.items fault named.0 bad
  named_fault (garbled ∷ labels) (Unlabelled held first) fault named (inr (g, is, same)) =
      rw same (reading-fault garbled labels first
      (inr (g, found_where_known _ (bytes garbled) held.items named.0 is, named.1)))
  named_fault (garbled ∷ labels) (Whole held parts) fault named (inl bad) =
      bytes_fault garbled labels held.items fault named.0 bad
  named_fault (garbled ∷ labels) (Whole held parts) fault named (inr (g, is, has)) =
      binding-fault garbled labels g parts.items fault (files_given held.items named.0 is named.1) has

module _ {A : Type 0} (bytes : FileBytes) (old new : FailedFiles) where
  -- Whole files of a line, and then what is read of later lines,
  pub read-next : (Failed : List ℕ → Type 0) (words : List (List ℕ)) (lines : List (List (List ℕ)))
      (files : LineFiles A) (more : List (LineFiles A)) → are_whole files ≡ true
      → AreNamed bytes Failed words files → AreReadInTurn bytes old new lines more
      → AreReadInTurn bytes old new (words ∷ lines) (files ∷ more)
  read-next Failed [] lines files more whole named later = absurd named
  read-next Failed (garbled ∷ labels) lines (Whole held parts) more whole named later =
      (named, later)
  read-next Failed words lines files more whole named later = absurd (cc)

  -- or files with a fault, after which no more are read.
  pub read-last : (words : List (List ℕ)) (lines : List (List (List ℕ))) (files : LineFiles A)
      → are_whole files ≡ false → AreNamed bytes (HasFailed old new) words files
      → AreReadInTurn bytes old new (words ∷ lines) (files ∷ [])
  read-last words lines (Whole held parts) part named = absurd (cc)
  read-last words lines files part named = named

  first_named : (words : List (List ℕ)) (lines : List (List (List ℕ))) (files : LineFiles A)
      (more : List (LineFiles A)) → AreReadInTurn bytes old new (words ∷ lines) (files ∷ more)
      → AreNamed bytes (HasFailed old new) words files
  first_named words lines (Whole held parts) more read = read.0
  first_named words lines files more read = read

  module _ (c : Netlist) where
    others_read : (words : List (List ℕ)) (lines : List (List (List ℕ))) (files : LineFiles A)
        (more : List (LineFiles A)) (job : JobParts)
        → AreReadInTurn bytes old new (words ∷ lines) (files ∷ more) → MakeJob c files job
        → AreReadInTurn bytes old new lines more
    others_read words lines (Whole held parts) more job read made = read.1
    others_read words lines files more job read made = absurd made

    -- The jobs that the files of lines make are those that the lines name, and no file has failed.
    pub made-named : (lines : List (List (List ℕ))) (read : List (LineFiles A))
        (jobs : List JobParts) → AreReadInTurn bytes old new lines read → MakeJobs c read jobs
        → NameJobs bytes c lines jobs × (new ≡ old)
    made-named [] [] [] are made = (tt, are)
    made-named (words ∷ lines) (files ∷ read) (job ∷ jobs) are made =
        let named = first_named words lines files read are in
        let others =
        made-named lines read jobs (others_read words lines files read job are made.0) made.1 in
        ((named_job bytes (HasFailed old new) c words files job named made.0, others.0), others.1)
    made-named [] [] (job ∷ jobs) are made = absurd made
    made-named (words ∷ lines) (files ∷ read) [] are made = absurd made
    made-named _ _ _ are made = absurd are

    none_made : (fault : Fault) (lines : List (List (List ℕ))) (read : List (LineFiles A))
        → AreReadInTurn bytes old new lines read → FirstMakeNoJob c read fault
        → FirstBadJob bytes (HasFailed old new) c lines fault
    none_made fault lines [] are none = absurd none
    none_made fault [] (files ∷ read) are none = absurd are
    none_made fault (words ∷ lines) (files ∷ read) are (inl here) =
        inl (named_fault bytes (HasFailed old new) c words files fault
        (first_named words lines files read are) here)
    none_made fault (words ∷ lines) (files ∷ read) are (inr (job, made, later)) =
        let named = first_named words lines files read are in
        let others = others_read words lines files read job are made in
        inr (
          job,
          named_job bytes (HasFailed old new) c words files job named made,
          none_made fault lines read others later,
        )

    -- The fault of making jobs of the files is that of the lines.
    pub making-fault : (lines : List (List (List ℕ))) (read : List (LineFiles A))
        → AreReadInTurn bytes old new lines read → (fault : Fault) → HasMakingFault c read fault
        → HasLinesFault bytes (HasFailed old new) c lines fault
    making-fault lines read are faults.Memory has = tt
    making-fault lines read are fault has =
        lines-fault bytes (HasFailed old new) c lines fault (none_made fault lines read are has)

-- Files that make no job have the fault of making jobs.
pub no-job-fault : {A : Type 0} (c : Netlist) (read : List (LineFiles A)) (fault : Fault)
    → FirstMakeNoJob c read fault → HasMakingFault c read fault
no-job-fault c read faults.Memory none = tt
no-job-fault c read fault none = none

module _ (bytes : FileBytes) (c : Netlist) where
  names_append : (lines others : List (List (List ℕ))) (jobs left : List JobParts)
      → NameJobs bytes c lines jobs → NameJobs bytes c others left
      → NameJobs bytes c (lines ++ others) (jobs ++ left)
  names_append [] others [] left named later = later
  names_append (words ∷ lines) others (job ∷ jobs) left named later =
      (named.0, names_append lines others jobs left named.1 later)
  names_append _ others _ left named later = absurd named

  -- The jobs of the first lines and of those after them are those of all.
  pub names-part : (m : ℕ) (lines : List (List (List ℕ))) (jobs left : List JobParts)
      → NameJobs bytes c (take m lines) jobs → NameJobs bytes c (drop m lines) left
      → NameJobs bytes c lines (jobs ++ left)
  names-part m lines jobs left named later =
      rw (take-append-drop m lines) at (names_append (take m lines) _ jobs left named later)

  module _ (Failed : List ℕ → Type 0) (fault : Fault) where
    bad_before : (lines others : List (List (List ℕ)))
        → FirstBadJob bytes Failed c lines fault
        → FirstBadJob bytes Failed c (lines ++ others) fault
    bad_before [] others bad = absurd bad
    bad_before (words ∷ lines) others (inl here) = inl here
    bad_before (words ∷ lines) others (inr (job, named, later)) =
        inr (job, named, bad_before lines others later)

    bad_after : (lines others : List (List (List ℕ))) (jobs : List JobParts)
        → NameJobs bytes c lines jobs → FirstBadJob bytes Failed c others fault
        → FirstBadJob bytes Failed c (lines ++ others) fault
    bad_after [] others jobs named bad = bad
    bad_after (words ∷ lines) others (job ∷ jobs) named bad =
        inr (job, named.0, bad_after lines others jobs named.1 bad)
    bad_after (words ∷ lines) others [] named bad = absurd named

    -- A fault of the first lines is one of all,
    pub bad-part : (m : ℕ) (lines : List (List (List ℕ)))
        → FirstBadJob bytes Failed c (take m lines) fault → FirstBadJob bytes Failed c lines fault
    bad-part m lines bad =
        rw (take-append-drop m lines) at (bad_before (take m lines) (drop m lines) bad)

    -- and so is one of those after them where the first name jobs.
    pub bad-later : (m : ℕ) (lines : List (List (List ℕ))) (jobs : List JobParts)
        → NameJobs bytes c (take m lines) jobs → FirstBadJob bytes Failed c (drop m lines) fault
        → FirstBadJob bytes Failed c lines fault
    bad-later m lines jobs named bad =
        rw (take-append-drop m lines) at (bad_after (take m lines) _ jobs named bad)

  -- A fault of some of the lines is one of all.
  pub lines-among : (Failed : List ℕ → Type 0) (some all : List (List (List ℕ)))
      → ((fault : Fault) → FirstBadJob bytes Failed c some fault
      → FirstBadJob bytes Failed c all fault)
      → (fault : Fault) → HasLinesFault bytes Failed c some fault
      → HasLinesFault bytes Failed c all fault
  lines-among Failed some all up (faults.File fault) has = up _ has
  lines-among Failed some all up (faults.Binding fault) has = up _ has
  lines-among Failed some all up faults.CannotRead has = up _ has
  lines-among Failed some all up faults.Memory has = tt
  lines-among Failed some all up fault has = absurd has

-- What some of the lines that are left name.
pub words-part : {X : Type 0} (f : X → List (List ℕ)) (lines left group : List X) (i m : ℕ)
    → left ≡ drop i lines → group ≡ take m left → map f group ≡ take m (drop i (map f lines))
words-part f lines left group i m is part =
    rw (part, is, drop-map f i lines) (sym (take-map f m (drop i lines)))
