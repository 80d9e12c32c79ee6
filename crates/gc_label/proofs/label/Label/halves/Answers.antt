use Rattle.std.proofs.Common.{arith}
use Rattle.gc_label.specs.Label.{bytes_of_label}
use Rattle.gc_label.proofs.label.Label.halves.Goals as goal

pub returns-clause-high : goal.returns-clause-high
unfolding bytes_of_label
returns-clause-high c = rw c.byte_vector.ensures.bytes (omega arith)
