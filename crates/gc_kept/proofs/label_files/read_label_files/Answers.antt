use Rattle.gc_kept.proofs.Names.{◌≡◌, ◌++◌, ◌∙◌, sym, arith, take-append-drop, take_all}
use Rattle.gc_file.specs.LabelFile.{label_file}
use Rattle.gc_kept.proofs.FileLemmas.{enough, faulty, grown, ended}
use Rattle.gc_kept.proofs.OutcomeLemmas.{if_err}
use Rattle.gc_kept.proofs.label_files.read_label_files.Goals.{After-split_at}
use Rattle.gc_kept.proofs.label_files.read_label_files.Goals as goal

pub split_at-requires : goal.split_at-requires
split_at-requires c =
    let so_far = c.loop-length.invariant in
    enough label_file _ _ _ _ _ so_far.spelled so_far.lengths_of
    (sym (c.add_up.ensures.0 c.if-not-add_up.false)) (omega arith)

-- The next file, and what comes after it.
split : (c : After-split_at)
    → c.loop-length.rest.now ≡ c.split_at.result.0.now ++ c.split_at.result.1.now
split c = rw (c.split_at.ensures.front, c.split_at.ensures.back) (sym (take-append-drop _ _))

pub returns-in_err-read_labels-clause-fault : goal.returns-in_err-read_labels-clause-fault
returns-in_err-read_labels-clause-fault c =
    let so_far = c.loop-length.invariant in
    if_err _ _ c.from_residual-in_err-read_labels.ensures.1 (
      sym (c.add_up.ensures.0 c.if-not-add_up.false),
      λ other. faulty _ _ _ _ _ so_far.spelled so_far.lengths_of so_far.whole _ _
          (split (goal.at.returns-in_err-read_labels-clause-fault c).After-split_at) (omega arith)
          c.split_at.ensures.front_len _ (c.in_err-read_labels.ensures other),
    )

pub loop-length-preserved : goal.loop-length-preserved
loop-length-preserved c =
    let so_far = c.loop-length.invariant in
    let next = grown _ _ _ _ _ so_far.spelled so_far.lengths_of so_far.whole _ _
    (split (goal.at.loop-length-preserved c).After-split_at) (omega arith)
    c.split_at.ensures.front_len c.in_ok-read_labels.field-0 c.in_ok-read_labels.ensures in
    rw c.in_ok-push.ensures.items (record { spelled = next.0; lengths_of = next.1; whole = next.2 })

pub returns-clause-ok : goal.returns-clause-ok
returns-clause-ok c =
    let l = c.loop-length in
    let so_far = l.invariant in record {
      spelled = ended label_file _ _ _ _ _ so_far.spelled so_far.lengths_of
          (sym (c.add_up.ensures.0 c.if-not-add_up.false)) (omega arith);
      lengths_of = sym (take_all l.length-index c.args.lengths.now (omega arith))
          ∙ so_far.lengths_of;
      whole = so_far.whole;
    }
