use Rattle.std.proofs.Common.{◌≡◌, ◌+◌, ◌*◌, ap, refl, arith}
use Rattle.std.proofs.lemmas.List.{take_more_set}
use Rattle.std.proofs.lemmas.List.FromFn.{map-range_with_len_more}
use Rattle.gc_label.specs.Seed.{word, label_at, input_label_of}
use Rattle.gc_label.proofs.SeedLemmas.{generator_at}
use Rattle.gc_label.proofs.keystream.fill_input_labels.Goals as goal

pub loop-label-preserved : goal.loop-label-preserved
unfolding word label_at input_label_of
loop-label-preserved c =
    let seed = c.args.seed.now in
    let first = c.args.first_wire in
    let i = c.loop-label.label-index in
    let labels = c.loop-label.labels in
    let next : 4 * (first + i + 1) + 4 ≡ 4 * (first + (i + 1) + 1) = omega arith in
    let label : c.next_label.result ≡ input_label_of seed (first + i) =
    rw c.loop-label.invariant.0 at c.next_label.ensures.label in (
      rw (c.next_label.ensures.advanced, c.loop-label.invariant.0) (ap (generator_at seed) next),
      cc (
        take_more_set labels i c.next_label.result (omega arith),
        map-range_with_len_more (input_label_of seed) first i (first + i) refl,
        label,
      ),
    )
