use Rattle.gc_file.proofs.ReaderNames.{rules, ◌≡◌, ◌-◌, ◌<◌, ◌++◌, length, arith, err_from_is_err_and, nat_tests, output_count, IsSpare, version_of_bytes, row_size, decode_size, entry_size, IsCutUp, IsGiven, in_order, spare_step, bad_trailer_step, more_step, body_step, view_step, message_step, given_step}
use Rattle.gc_file.proofs.body.Body.with.Given.{Over}
use Rattle.gc_file.proofs.body.Body.with.Goals.{After-cut_up-cuts, In_ok-add_decode_bytes}
use Rattle.gc_file.proofs.body.Body.with.Goals as goal

-- The piece is cut up into what each part lacks.
cut-up : (g : Over) (c : After-cut_up-cuts g) →
    let inside = c.self.inside in let h = inside.header.items in
    let cuts = c.cut_up-cuts.result in
    IsCutUp (row_size h - length inside.rows) (decode_size h - length inside.decode_bytes.items)
    (entry_size h - length inside.entries) (32 - length inside.trailer.items) c.args.piece.now
    cuts.rows.now cuts.decode_bytes.now cuts.entries.now cuts.trailer.now cuts.rest.now
cut-up g c =
    let decode_len : c.len-2.result ≡ length c.self.inside.decode_bytes.items = search rules in
    let trailer_len : c.len-4.result ≡ length c.self.inside.trailer.items = search rules in
    let header = c.as_slice.ensures.value in let counts = c.of-counts.ensures in
    let rows_len = c.len.ensures in let entries_len = c.len-3.ensures in
    grind (arith, c.cut_up-cuts.ensures)

-- A digest that is given is that of the message, where the piece ends the file.
given : (g : Over) (c : After-cut_up-cuts g) →
    let inside = c.self.inside in let cuts = c.cut_up-cuts.result in
    IsGiven c.args.digest (inside.header.items ++ (inside.rows ++ cuts.rows.now)
    ++ (inside.decode_bytes.items ++ cuts.decode_bytes.now) ++ (inside.entries ++ cuts.entries.now))
    (inside.trailer.items ++ cuts.trailer.now) cuts.rest.now
given g c =
    given_step c.self.invariant (cut-up g c) c.args.digest (rw (← c.self.view_is) at c.requires)

-- No spare bit of the decode bytes is set, as far as they are there.
no-spare : (g : Over) (c : In_ok-add_decode_bytes g) →
    let h = c.self.inside.header.items in
    let decode_bytes = c.self.inside.decode_bytes.items ++ c.cut_up-cuts.result.decode_bytes.now in
    length decode_bytes ≡ decode_size h → IsSpare (output_count h) decode_bytes → ⊥
no-spare g c =
    let counts = c.of-counts.ensures in
    rw (← c.as_slice.ensures.value, ← counts.decode_bytes, ← counts.outputs)
    c.in_ok-add_decode_bytes.ensures.checked

pub returns-in_err-add_decode_bytes-clause-err : goal.returns-in_err-add_decode_bytes-clause-err
returns-in_err-add_decode_bytes-clause-err g c =
    let now = (goal.at.returns-in_err-add_decode_bytes-clause-err g c).After-cut_up-cuts in
    let exit = c.from_residual-in_err-add_decode_bytes in
    let p = err_from_is_err_and exit.result exit.ensures.1 in
    let header = c.as_slice.ensures.value in let counts = c.of-counts.ensures in
    rw (p.1, p.2) (λ other.
    let fault = c.in_err-add_decode_bytes.ensures.err other in
    rw (fault.0, ← c.self.view_is) (spare_step c.self.invariant (cut-up g now)
    (rw (← header, ← counts.decode_bytes) fault.1) (rw (← header, ← counts.outputs) fault.2)))

pub returns-in_err-add_hashed-clause-err : goal.returns-in_err-add_hashed-clause-err
returns-in_err-add_hashed-clause-err g c =
    let at = goal.at.returns-in_err-add_hashed-clause-err g c in
    let now = at.After-cut_up-cuts in
    let fault = c.in_err-add_hashed.ensures.err in
    let exit = c.from_residual-in_err-add_hashed in
    let p = err_from_is_err_and exit.result exit.ensures.1 in
    rw (p.1, p.2) (λ other. rw (fault.0, ← c.self.view_is)
    (bad_trailer_step c.self.invariant (cut-up g now)
    (no-spare g at.In_ok-add_decode_bytes) fault.1
    (fault.2 _ _ c.self.invariant.hashed (message_step c.self.invariant (cut-up g now))
    (given g now))))

pub returns-then-not-is_empty-clause-err : goal.returns-then-not-is_empty-clause-err
returns-then-not-is_empty-clause-err g c =
    let at = goal.at.returns-then-not-is_empty-clause-err g c in
    let now = at.After-cut_up-cuts in
    let some : 0 < length c.cut_up-cuts.result.rest.now = grind (arith, nat_tests) in
    λ other. rw (← c.self.view_is)
    (more_step c.self.invariant (cut-up g now) (no-spare g at.In_ok-add_decode_bytes)
    (c.in_ok-add_hashed.ensures.hashed _ _ c.self.invariant.hashed
    (message_step c.self.invariant (cut-up g now)) (given g now)) some)

pub invariant_of-result : goal.invariant_of-result
invariant_of-result g c =
    let at = goal.at.invariant_of-result g c in
    let now = at.After-cut_up-cuts in
    rw (
      c.in_ok-add.ensures.ok,
      c.in_ok-add_decode_bytes.ensures.ok,
      c.in_ok-add-2.ensures.ok,
      c.in_ok-add_hashed.ensures.ok,
    )
    (body_step c.self.invariant (cut-up g now) (no-spare g at.In_ok-add_decode_bytes)
    (c.in_ok-add_hashed.ensures.hashed _ _ c.self.invariant.hashed
    (message_step c.self.invariant (cut-up g now)) (given g now)))

pub returns-clause-ok : goal.returns-clause-ok
returns-clause-ok g c =
    let now = (goal.at.returns-clause-ok g c).After-cut_up-cuts in
    let none : length c.cut_up-cuts.result.rest.now ≡ 0 = grind (arith, nat_tests) in
    rw (
      c.in_ok-add.ensures.ok,
      c.in_ok-add_decode_bytes.ensures.ok,
      c.in_ok-add-2.ensures.ok,
      c.in_ok-add_hashed.ensures.ok,
      ← c.self.view_is,
    )
    (view_step c.self.invariant (cut-up g now) none)

pub returns-clause-sound : goal.returns-clause-sound
returns-clause-sound g c =
    (version_of_bytes c.self.inside.header.items, in_order (invariant_of-result g c))
