use Rattle.gc_audit.proofs.Names.{◌≡◌, ◌+◌, ◌-◌, ◌*◌, Some, ap, ◌∙◌, arith}
use Rattle.gc_audit.proofs.RowLemmas.{row_read}
use Rattle.gc_audit.proofs.rows.row_in.Goals as goal

pub returns : goal.returns
returns c rows spelled each =
    let a = c.args in
    let size : 32 * a.place + 32 - 32 * a.place ≡ 32 = omega arith in
    row_read rows a.place c.read_rows.new.rows c.index-row-0.result a.bytes.now spelled each
    c.requires (omega arith) c.index-row-0.is c.read_rows.ensures.rows
    (rw size at c.read_rows.ensures.bytes)
    ∙ ap Some c.index-row-0.is
