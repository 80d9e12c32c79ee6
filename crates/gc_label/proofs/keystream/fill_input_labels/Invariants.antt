use Rattle.std.proofs.Common.{◌≡◌, ◌+◌, ◌*◌, map, take}
use Rattle.std.specs.List.{range_with_len}
use Rattle.gc_label.specs.Seed.{input_label_of}
use Rattle.gc_label.proofs.SeedLemmas.{generator_at}
use Rattle.gc_label.proofs.keystream.fill_input_labels.Given as goal

-- the keystream is at the first word of the next wire's label, and the labels before are written
abbrev pub invariant-loop-label : goal.invariant-loop-label
invariant-loop-label l =
    (l.keystream ≡ generator_at l.seed (4 * (l.first_wire + l.label-index + 1)))
    × (take l.label-index l.labels
    ≡ map (input_label_of l.seed) (range_with_len l.first_wire l.label-index))
