use Rattle.gc_job.proofs.Names.{◌≡◌, take, flat_map, labels_at}
use Rattle.gc_job.proofs.bind.joined_labels.Given as goal

abbrev pub invariant-loop-place : goal.invariant-loop-place
invariant-loop-place g l = l.labels.items ≡ flat_map (labels_at l.files)
    (take l.place-index l.places)
