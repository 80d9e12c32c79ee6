use Rattle.std.proofs.Common.{arith, rules}
use Rattle.gc_half.proofs.HashLemmas.{hash-is, map-four}
use Rattle.gc_half.proofs.hash.tweak_hash_four.Goals as goal

pub returns : goal.returns
returns c =
    map-four _ c.args.inputs _ _ _ _ (search rules)
    (hash-is _ _ c.from_number.ensures (c.hash_four.ensures 0 (omega arith)) c.number.ensures)
    (hash-is _ _ c.from_number-2.ensures (c.hash_four.ensures 1 (omega arith)) c.number-2.ensures)
    (hash-is _ _ c.from_number-3.ensures (c.hash_four.ensures 2 (omega arith)) c.number-3.ensures)
    (hash-is _ _ c.from_number-4.ensures (c.hash_four.ensures 3 (omega arith)) c.number-4.ensures)
