use Rattle.gc_audit.proofs.Names.{ℕ, length, refl, sym, ap, subst, ◌∙◌, WrongWidth, HasInputLabels, IsVerdictWith, IsVerdictFrom}
use Rattle.std.specs.Result.{IfOk}
use Rattle.std.proofs.lemmas.Result.{IfOk-weaker}
use Rattle.gc_audit.proofs.LabelsLemmas.{found_at, verdict-dealt, compared-verdict}
use Rattle.gc_audit.proofs.labels.audit_labels_with_offset.Given.{Over}
use Rattle.gc_audit.proofs.labels.audit_labels_with_offset.Goals.{After-compare}
use Rattle.gc_audit.proofs.labels.audit_labels_with_offset.Goals as goal

pub returns-then-filed-width-clause-dealt : goal.returns-then-filed-width-clause-dealt
returns-then-filed-width-clause-dealt g c zero_label has =
    let of = c.args.of.now in let width = c.in-Some.width.now in
    let found = c.in-Some.ensures.lookup in
    let at = found_at _ _ c.index-index.result _ width width found.0 found.1 c.input_widths.ensures
    c.index-index.ensures refl in
    verdict-dealt of.circuit.now of.offset c.law_coloured.ensures zero_label c.args.file.now
    {A = ℕ} WrongWidth (
      width,
      at,
      λ e.
          c.if-filed-width.true (ap length c.labels-filed.ensures ∙ e),
    )

-- The verdict on the labels is that on the file.
verdict : (g : Over) (c : After-compare g) (zero_label : ℕ → ℕ)
    → HasInputLabels c.args.of.now.circuit.now c.args.of.now.garbling.now zero_label
    → (let of = c.args.of.now in IfOk c.compare.result
    (IsVerdictWith of.circuit.now of.offset zero_label c.args.file.now))
verdict g c zero_label has =
    let of = c.args.of.now in let file = c.args.file.now in let found = c.in-Some.ensures.lookup in
    let at = found_at _ _ _ _ _ _ found.0 found.1 c.input_widths.ensures c.index-index.ensures
    (ap length (sym c.labels-filed.ensures) ∙ c.if-filed-width.false) in
    let first = c.first_wire-first.result in
    IfOk-weaker c.compare.result (IsVerdictFrom of.offset zero_label first file.labels) _
    (λ v is. compared-verdict of.circuit.now of.offset c.law_coloured.ensures zero_label file v
    first c.index-index.result at c.first_wire-first.ensures c.index-index.ensures is)
    (subst (λ l. IfOk c.compare.result (IsVerdictFrom of.offset zero_label first l))
    c.labels-filed.ensures
    (c.compare.ensures zero_label has))

pub returns-clause-verdict : goal.returns-clause-verdict
returns-clause-verdict g c = verdict g c

pub returns-clause-dealt : goal.returns-clause-dealt
returns-clause-dealt g c zero_label has =
    let of = c.args.of.now in let file = c.args.file.now in
    IfOk-weaker c.compare.result (IsVerdictWith of.circuit.now of.offset zero_label file) _
    (λ v is. verdict-dealt of.circuit.now of.offset c.law_coloured.ensures zero_label file v is)
    (verdict g c zero_label has)
