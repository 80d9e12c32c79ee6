use Rattle.std.proofs.Common.{ℕ, arith, ap, ◌∙◌}
use Rattle.atomic_table.specs.Table.{Me}
use Rattle.gc_rounds.specs.declared.view.View.{View}
use Rattle.gc_gates.specs.declared.view.GateView.{GateView}
use Rattle.gc_gates.proofs.BoardSeating.{notes, joins}
use Rattle.gc_gates.proofs.board_seats.copy_known.Goals as goal

pub split_seat-note-requires : goal.split_seat-note-requires
split_seat-note-requires g c = let p = c.requires.from in
    (p.table_id, omega arith, notes _ _ c.args.words.now.key _ _)

pub join_seat-requires : goal.join_seat-requires
join_seat-requires g c = let p = c.requires.to in let e = c.split_seat-note.ensures in (
  p.table_id,
  e.3 ∙ c.requires.from.table_id,
  ap (λ (m : Me ℕ (View (GateView g.row.J.Denot))). m.1) e.4,
  omega arith,
  joins _ _ c.args.words.now.key _ _ _ _
      (ap (λ (m : Me ℕ (View (GateView g.row.J.Denot))). m.0.inner.hand) e.4),
)
