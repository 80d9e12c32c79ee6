use Rattle.gc_bank.proofs.Names.{◌+◌, arith}
use Rattle.gc_bank.proofs.apart.evaluate_shares.Goals as goal

pub for_each_chunk_mut-requires-clause-accepts : goal.for_each_chunk_mut-requires-clause-accepts
for_each_chunk_mut-requires-clause-accepts g c = λ _ _ start p chunk. (
  c.requires.size,
  (
    c.requires.few,
    (
      omega (arith, chunk.in_bounds, c.requires.room),
      (
        c.requires.one,
        λ k d below. rw (chunk.elements k d below)
            (c.requires.known (start + k) d (omega (arith, below, chunk.in_bounds))),
      ),
    ),
  ),
)
