use Rattle.gc_command.proofs.Names.{◌≡◌, ◌≢◌, ℕ, suc, ◌+◌, List, ◌++◌, replicate, Err, refl, ◌∙◌, append_assoc, arith, replicate_more, FailedFiles, HasFailed, CountsWrite, err_from_is_err_and}
use Rattle.gc_disk.specs.declared.files.FileError.{FileError}
use Rattle.gc_disk.specs.declared.files.FileError.TheVariants as file
use Rattle.gc_command.proofs.wrote.keep_written.Goals as goal

-- A file that could not be kept has failed, if its sink has counted failures.
keep-failed : (old new : FailedFiles) (name : List ℕ) (count : ℕ) (e : FileError)
    → CountsWrite {T = Unit {0}} (Err e) name (old ++ replicate count name) new → e ≢ file.Memory
    → HasFailed old new name
keep-failed old new name count file.CannotRead counted other = absurd counted
keep-failed old new name count file.CannotWrite counted other =
    let one : count + 1 ≡ suc count = omega arith in
    (count, counted ∙ simp (append_assoc, replicate_more count name, one))
keep-failed old new name count file.Memory counted other = absurd (other refl)

pub returns-in_err-keep-in-Ok-clause-cause : goal.returns-in_err-keep-in-Ok-clause-cause
returns-in_err-keep-in-Ok-clause-cause g c =
    let p = err_from_is_err_and c.from_residual.result c.from_residual.ensures.1 in
    rw p.1 (keep-failed (g.F.Files.failures c.args.files.now) _ _ _ _
    c.in_err-keep-in-Ok.ensures.counted c.in_err-keep-in-Ok.ensures.no_memory)
