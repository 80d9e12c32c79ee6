-- Files on their way to a sink.
use Rattle.gc_file.proofs.Names.{◌≡◌, refl, ℕ, ◌+◌, ◌<◌, List, ◌++◌, length, take, drop, length-append, length-take, length-drop, append_assoc, Option, Result, Ok, Err, ◌∙◌, arith, Appends-trans, take-append-drop, err_from_is_err_and, Appends, IsErrAnd, FileWriter, WriteFault, IsStopped, IsAfter, Proceeds, saturated_count}
use Rattle.gc_file.specs.declared.sink.Sink.{Ghosts}

-- A sink that stopped in a file stopped in each longer one.
pub IsStopped-more : {before now : Option (List ℕ)} {file : List ℕ} {sent : ℕ} (more : List ℕ)
    → IsStopped before now file sent → IsStopped before now (file ++ more) sent
IsStopped-more more s = record {
  beginning = s.beginning;
  rest = s.rest ++ more;
  whole = rw (← append_assoc, s.whole);
  not_all = omega (arith, length-append s.rest more);
  taken = s.taken;
  count = s.count;
}

-- The sink took only the first bytes of a piece.
pub IsAfter-stopped : {taken now : Option (List ℕ)} (sent : ℕ) (piece : List ℕ) (more total : ℕ)
    → Appends taken now (take more piece) → more < length piece
    → total ≡ saturated_count (sent + more)
    → IsAfter sent taken now piece (Err (record { sent = total }))
IsAfter-stopped {taken} {now} sent piece more total appended below is = record {
  goes = λ before file written count. record {
    beginning = file ++ take more piece;
    rest = drop more piece;
    whole = rw (append_assoc, take-append-drop) refl;
    not_all = omega (arith, length-drop more piece);
    taken = Appends-trans before taken now file (take more piece) written appended;
    count = omega (arith, length-append file (take more piece), length-take more piece);
  };
}

module _ {O : Type 0} {Saw : O → List ℕ → Type 0} {w w' : FileWriter O}
    {now now' : Option (List ℕ)} where
  -- The sink stopped in bytes, before more.
  pub Proceeds-exit : {e : WriteFault} {xs zs : List ℕ} (r : Result (Unit {0}) WriteFault)
      (rest : List ℕ) → IsErrAnd r (λ y. y ≡ e) → xs ++ rest ≡ zs
      → Proceeds Saw w w' now now' (Err e) xs → Proceeds Saw w w' now now' r zs
  Proceeds-exit {e} {xs} r rest is whole stopped =
      let p = err_from_is_err_and r is in
      rw (p.1, p.2, ← whole) (record {
        goes = λ before file u. rw (← append_assoc file xs rest)
            (IsStopped-more rest (stopped.goes before file u));
      })

  -- Bytes are written, and then more.
  pub Proceeds-step : {v : FileWriter O} {taken : Option (List ℕ)} {xs ys zs : List ℕ}
      {r : Result (Unit {0}) WriteFault} → xs ++ ys ≡ zs → Proceeds Saw v w taken now (Ok tt) xs
      → Proceeds Saw w w' now now' r ys → Proceeds Saw v w' taken now' r zs
  Proceeds-step {v} {taken} {xs} {ys} is first second = rw (← is) (record {
    goes = λ before file u. rw (← append_assoc file xs ys)
        (second.goes before (file ++ xs) (first.goes before file u));
  })

-- What a loop has done so far: it wrote these bytes to the sink, which has not failed.
pub record Wrote {O S : Type 0} (Saw : O → List ℕ → Type 0) (sink : Ghosts S)
    (old new : FileWriter O) (before now : S) (made : List ℕ) : Type 0 where
  pub bytes : Proceeds Saw old new (sink.taken before) (sink.taken now) (Ok tt) made
  pub counted : sink.failures now ≡ sink.failures before

module _ {O S : Type 0} {Saw : O → List ℕ → Type 0} {sink : Ghosts S} {v w w' : FileWriter O}
    {before now then : S} {xs ys zs : List ℕ} where
  -- It writes more bytes,
  pub Wrote-more : xs ++ ys ≡ zs → Wrote Saw sink v w before now xs
      → record {
        bytes : Proceeds Saw w w' (sink.taken now) (sink.taken then) (Ok tt) ys;
        counted : sink.failures then ≡ sink.failures now;
      } → Wrote Saw sink v w' before then zs
  Wrote-more is so_far more = record {
    bytes = Proceeds-step is so_far.bytes more.bytes;
    counted = more.counted ∙ so_far.counted;
  }

  -- or the sink stops in them, before the rest.
  pub Wrote-exit : {e : WriteFault} {all : List ℕ} (r : Result (Unit {0}) WriteFault)
      (rest : List ℕ) → IsErrAnd r (λ y. y ≡ e) → xs ++ ys ≡ zs → zs ++ rest ≡ all
      → Wrote Saw sink v w before now xs
      → Proceeds Saw w w' (sink.taken now) (sink.taken then) (Err e) ys
      → Proceeds Saw v w' (sink.taken before) (sink.taken then) r all
  Wrote-exit r rest exit is whole so_far more =
      Proceeds-exit r rest exit whole (Proceeds-step is so_far.bytes more)
