use Rattle.gc_lanes.proofs.Names.{ℕ, ap, ◌∙◌, rules, label_of_low_words, lane}
use Rattle.gc_lanes.proofs.Turning.{below_eight, column-is}
use Rattle.gc_lanes.proofs.labels.labels_of_eight.Goals as goal

pub returns : goal.returns
returns c =
    let turned = c.turned_eight.ensures in
    let at = λ (j : ℕ). ap label_of_low_words
    (column-is (λ v. lane v j) c.args.words (search rules)) in
    below_eight _
    (c.labels_of_two-a.ensures.one ∙ rw turned (at 0))
    (c.labels_of_two-b.ensures.one ∙ rw turned (at 1))
    (c.labels_of_two-c.ensures.one ∙ rw turned (at 2))
    (c.labels_of_two-d.ensures.one ∙ rw turned (at 3))
    (c.labels_of_two-a.ensures.other ∙ rw turned (at 4))
    (c.labels_of_two-b.ensures.other ∙ rw turned (at 5))
    (c.labels_of_two-c.ensures.other ∙ rw turned (at 6))
    (c.labels_of_two-d.ensures.other ∙ rw turned (at 7))
