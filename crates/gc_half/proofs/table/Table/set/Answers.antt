use Rattle.std.proofs.Common.{◌≡◌, ◌<◌, ◌≤◌, ◌-◌, ◌++◌, length, set, replicate, vec_len, sym, subst, arith}
use Rattle.gc_half.specs.declared.table.Table.TheInside.{Inside}
use Rattle.gc_half.proofs.FilledLemmas.{set_filled, filled_up, filled_length}
use Rattle.gc_half.proofs.table.Table.set.Goals as goal
use Rattle.gc_half.proofs.table.Table.set.Goals.{then-i-len, else-i-len}

pub returns : goal.returns
returns g c =
    let inside = c.self.inside in
    let fits = c.self.invariant.0 in
    let count = filled_length inside.filled.items c.args.self.now inside.unset
    (vec_len inside.filled) inside.len
    inside.filled.ok.0 fits c.self.view_is in
    let P : Inside g.row.T.Denot g.row.A.Denot → Type 0 = λ x.
    set x.filled.items c.args.i c.args.entry ++ replicate (x.len - vec_len x.filled) x.unset
    ≡ set c.args.self.now c.args.i c.args.entry in
    elim c.if-i-len.branch [
      | then-i-len w ↦
          let filled = w.fill.new.items in
          let end = w.min-end.result in
          let more : vec_len inside.filled ≤ end = omega (arith, w.saturating_add.ensures, fits) in
          let there : c.args.i < length filled.items = omega (arith, w.fill.ensures, count) in
          subst P (sym w.self-inside-is) (set_filled filled.items inside.unset _ _ _ _ there
          (filled_up inside.filled.items filled.items _ _ _ end _ _ more (omega arith)
          w.fill.ensures.items w.fill.ensures.len c.self.view_is))
      | else-i-len w ↦
          let there : c.args.i < length inside.filled.items = omega arith in
          subst P (sym w.self-inside-is)
          (set_filled inside.filled.items inside.unset _ _ _ _ there c.self.view_is)
    ]
