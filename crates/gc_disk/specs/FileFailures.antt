-- Which files have failed in a history.
use Rattle.std.specs.Prelude.{ℕ, [], ◌∷◌, ◌++◌, replicate}
use Rattle.gc_disk.specs.declared.file_failures.FileHistory.{FileHistory, Start, Failed', Kept', Shut'}
use Rattle.gc_disk.specs.Files.{FailedFiles}

-- `of_sink` and `of_source` are the numbers of failures of a sink and of a source.
abbrev pub failed_files : {K S : Type 0} → (K → ℕ) → (S → ℕ) → FileHistory K S → FailedFiles
failed_files of_sink of_source Start = []
failed_files of_sink of_source (Failed' shape before name) =
    failed_files of_sink of_source before ++ name.value ∷ []
failed_files of_sink of_source (Kept' shape before name sink) =
    failed_files of_sink of_source before ++ replicate (of_sink sink.value) name.value
failed_files of_sink of_source (Shut' shape before name source) =
    failed_files of_sink of_source before ++ replicate (of_source source.value) name.value
