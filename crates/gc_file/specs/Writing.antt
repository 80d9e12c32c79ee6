-- A file on its way to a sink.
use Rattle.std.specs.Prelude.{◌≡◌, ℕ, ◌<◌, List, ◌++◌, length, Option, Result, MatchResult, ⊤}
use Rattle.std.specs.Io.KnownBytes.{Appends}
use Rattle.gc_file.specs.Counted.{saturated_count}
use Rattle.gc_file.specs.declared.writer.FileWriter.{FileWriter}
use Rattle.gc_file.specs.declared.writer.WriteFault.{WriteFault}

-- The file was written so far: the sink took a beginning of it, which the observer has seen, and the rest is held. The
-- sink had taken `before` ahead of the file, and has taken `now`.
pub record IsUnderWay {O : Type 0} (Saw : O → List ℕ → Type 0) (writer : FileWriter O)
    (now before : Option (List ℕ))
    (file : List ℕ) : Type 0 where
  pub beginning : List ℕ
  pub whole : beginning ++ writer.held.items ≡ file
  pub seen : Saw writer.observer beginning
  pub taken : Appends before now beginning
  pub count : writer.sent ≡ saturated_count (length beginning)

-- The sink failed before the end of the file: it took a beginning of this many bytes, and no others.
pub record IsStopped (before now : Option (List ℕ)) (file : List ℕ) (sent : ℕ) : Type 0 where
  pub beginning : List ℕ
  pub rest : List ℕ
  pub whole : beginning ++ rest ≡ file
  pub not_all : 0 < length rest
  pub taken : Appends before now beginning
  pub count : sent ≡ saturated_count (length beginning)

-- These bytes were written after whatever file was under way, or the sink stopped before their end.
pub record Proceeds {O : Type 0} (Saw : O → List ℕ → Type 0) (old new : FileWriter O)
    (taken now : Option (List ℕ))
    (result : Result (Unit {0}) WriteFault) (bytes : List ℕ) : Type 0 where
  pub goes : (before : Option (List ℕ)) (file : List ℕ) → IsUnderWay Saw old taken before file →
      MatchResult result (λ _. IsUnderWay Saw new now before (file ++ bytes))
      (λ fault. IsStopped before now (file ++ bytes) fault.sent)

-- These last bytes were written after whatever file was under way, and the sink took all of it; or it stopped before.
pub record Ends {O : Type 0} (Saw : O → List ℕ → Type 0) (writer : FileWriter O)
    (taken now : Option (List ℕ))
    (result : Result ℕ WriteFault) (last : List ℕ → List ℕ) : Type 0 where
  pub goes : (before : Option (List ℕ)) (file : List ℕ) → IsUnderWay Saw writer taken before file →
      let whole = file ++ last file in
      MatchResult result (λ n. Appends before now whole × (n ≡ saturated_count (length whole)))
      (λ fault. IsStopped before now whole fault.sent)

-- A piece was sent after whatever file the sink took this many bytes of: it took all of the piece, or stopped in it.
pub record IsAfter (sent : ℕ) (taken now : Option (List ℕ)) (piece : List ℕ)
    (result : Result ℕ WriteFault) : Type 0 where
  pub goes : (before : Option (List ℕ)) (file : List ℕ) → Appends before taken file
      → sent ≡ saturated_count (length file) → let whole = file ++ piece in
      MatchResult result (λ n. Appends before now whole × (n ≡ saturated_count (length whole)))
      (λ fault. IsStopped before now whole fault.sent)

-- An observer that ignores the bytes may have seen any.
abbrev pub Unseen : {O : Type 0} → O → List ℕ → Type 0
Unseen observer bytes = ⊤
