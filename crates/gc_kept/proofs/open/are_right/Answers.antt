use Rattle.gc_kept.proofs.Names.{and_parts, and_cases, get_or_read, ◌≡◌, ◌+◌, [], ◌∷◌, ◌++◌, length, inl, inr, refl, ap, ◌∙◌, arith, slice_index, take_all}
use Rattle.gc_audit.proofs.LabelsLemmas.{encoded-more}
use Rattle.gc_kept.proofs.OpenLemmas.{labels_spelled, length-are}
use Rattle.gc_kept.proofs.open.are_right.Goals as goal

pub loop-i-preserved : goal.loop-i-preserved
loop-i-preserved c =
    let l = c.loop-i in
    let zeros = c.args.zero_labels.now in
    let zero : c.index-zero_labels-i.result ≡ slice_index zeros (0 + l.i) =
    get_or_read zeros l.i _ (omega arith) c.index-zero_labels-i.is 0
    ∙ ap (slice_index zeros) (omega arith) in
    record {
      right = λ all active are.
          let parts = and_parts l.all c.is_right-all.result all in
          let before = l.invariant.right parts.0 active are in
          let bit = c.is_right-all.ensures.right parts.1 in
          let more = encoded-more c.args.offset (slice_index zeros) 0 active before.0
          (before.0 ++ bit.0 ∷ []) l.i c.label_at.result bit.0 before.1 before.2
          (c.label_at.ensures active are) (rw zero at bit.1) refl in
          (before.0 ++ bit.0 ∷ [], more.0, more.1);
      wrong = λ some active are. elim (and_cases l.all c.is_right-all.result some) [
        | inl already ↦ l.invariant.wrong already active are
        | inr here ↦ record {
          labels = active;
          labels_are = are;
          place = l.i;
          label = c.label_at.result;
          at = c.label_at.ensures active are;
          wrong = rw zero at (c.is_right-all.ensures.wrong here);
        }
      ];
    }

pub returns-clause-right : goal.returns-clause-right
returns-clause-right c all =
    let l = c.loop-i in
    let active = labels_spelled c.args.labels.now (length c.args.zero_labels.now) c.requires
    (λ i. omega (arith, c.type_inv.labels i)) in
    let found = l.invariant.right all active.0 active.1 in
    let many = length-are c.args.labels.now active.0 active.1 in
    (found.0, rw (← found.1, take_all l.i active.0 (omega arith)) active.1)

pub returns-clause-wrong : goal.returns-clause-wrong
returns-clause-wrong c some =
    let active = labels_spelled c.args.labels.now (length c.args.zero_labels.now) c.requires
    (λ i. omega (arith, c.type_inv.labels i)) in
    c.loop-i.invariant.wrong some active.0 active.1
