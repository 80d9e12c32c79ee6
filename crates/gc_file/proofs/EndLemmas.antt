-- The ends of files on their way to a sink.
use Rattle.gc_file.proofs.Names.{◌≡◌, ℕ, ◌^◌, ◌<◌, List, [], ◌++◌, length, length-append, append_assoc, append-nil, Option, Result, Ok, Err, sym, ap, ◌∙◌, arith, take-append_seam, err_from_is_err_and, IsErrAnd, HoldsMessage, sha256, FileWriter, WriteFault, IsUnderWay, IsStopped, IsAfter, Proceeds, Ends, IsWritten, LongSha256}
use Rattle.gc_file.proofs.WritingLemmas.{IsStopped-more}

-- Where nothing is held, the sink took the file.
took_all : {O : Type 0} {Saw : O → List ℕ → Type 0} (w : FileWriter O)
    {now before : Option (List ℕ)} (file : List ℕ) (u : IsUnderWay Saw w now before (file ++ []))
    → w.held.items ≡ []
    → u.beginning ≡ file
took_all w file u empty = simp (empty, append-nil) at u.whole

module _ {O : Type 0} {Saw : O → List ℕ → Type 0} {w w' : FileWriter O}
    {taken now : Option (List ℕ)} where
  -- All that was held is handed over, and the file has ended.
  pub Ends-sent : Proceeds Saw w w' taken now (Ok tt) [] → w'.held.items ≡ []
      → Ends Saw w taken now (Ok w'.sent) (λ _. [])
  Ends-sent sent empty = record {
    goes = λ before file a.
        let u = sent.goes before file a in
        rw (append-nil file, ← took_all w' file u empty) (u.taken, u.count);
  }

  -- The sink stopped in bytes, before the last ones.
  pub Ends-exit : {e : WriteFault} {xs : List ℕ} (r : Result ℕ WriteFault) (rest : List ℕ → List ℕ)
      → IsErrAnd r (λ y. y ≡ e) → Proceeds Saw w w' taken now (Err e) xs
      → Ends Saw w taken now r (λ file. xs ++ rest file)
  Ends-exit {e} {xs} r rest is stopped =
      let p = err_from_is_err_and r is in
      rw (p.1, p.2) (record {
        goes = λ before file a. rw (← append_assoc file xs (rest file))
            (IsStopped-more (rest file) (stopped.goes before file a));
      })

  -- Bytes are written, and then the last ones.
  pub Ends-step : {end : Option (List ℕ)} {r : Result ℕ WriteFault} {xs : List ℕ}
      {last : List ℕ → List ℕ} → Proceeds Saw w w' taken now (Ok tt) xs → Ends Saw w' now end r last
      → Ends Saw w taken end r (λ file. xs ++ last (file ++ xs))
  Ends-step {end} {r} {xs} {last} written ended = record {
    goes = λ before file a. rw (← append_assoc file xs (last (file ++ xs)))
        (ended.goes before (file ++ xs) (written.goes before file a));
  }

-- All of a file whose bytes are digested was sent, and then the digest.
pub Ends-digest : {w w' : FileWriter LongSha256} {taken now end : Option (List ℕ)}
    {r : Result ℕ WriteFault} {digest : List ℕ}
    → ((bytes : List ℕ) → HoldsMessage w'.observer bytes → digest ≡ sha256 bytes)
    → w'.held.items ≡ [] → Proceeds HoldsMessage w w' taken now (Ok tt) []
    → IsAfter w'.sent now end digest r → Ends HoldsMessage w taken end r sha256
Ends-digest {w'} digested empty sent after = record {
  goes = λ before file a.
      let u = sent.goes before file a in
      let all = took_all w' file u empty in
      let right = digested u.beginning u.seen ∙ ap sha256 all in
      rw (← right) (after.goes before file (rw all at u.taken) (rw all at u.count));
}

-- The sink stopped in the file.
IsWritten-stopped : {file : List ℕ} {old new : Option (List ℕ)} {sent : ℕ} → length file < 2 ^ 64
    → IsStopped old new file sent → IsWritten file (Err (record { sent = sent })) old new
IsWritten-stopped {sent} small s =
    let size = sym (ap length s.whole) ∙ length-append s.beginning s.rest in
    let same : sent ≡ length s.beginning = omega arith in
    (omega arith, rw (same, ← s.whole, take-append_seam) s.taken)

-- The file was written from its first byte to its last.
pub IsWritten-whole : {O : Type 0} {Saw : O → List ℕ → Type 0} {w : FileWriter O}
    {old new : Option (List ℕ)} {file : List ℕ} {last : List ℕ → List ℕ} (r : Result ℕ WriteFault)
    → length file < 2 ^ 64
    → ((now : Option (List ℕ)) → IsUnderWay Saw w now now []) → last [] ≡ file
    → Ends Saw w old new r last → IsWritten file r old new
IsWritten-whole {old} (Ok n) small begun whole ended =
    let e = ended.goes old [] (begun old) in rw (← whole) (omega (arith, ap length whole), e.0)
IsWritten-whole {old} (Err fault) small begun whole ended =
    IsWritten-stopped small (rw (← whole) (ended.goes old [] (begun old)))
