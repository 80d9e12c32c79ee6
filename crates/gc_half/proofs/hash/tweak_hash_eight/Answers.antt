use Rattle.std.proofs.Common.{arith, rules}
use Rattle.gc_half.proofs.HashLemmas.{hash-is, map-four}
use Rattle.gc_half.proofs.hash.tweak_hash_eight.Goals as goal

pub returns-clause-inputs : goal.returns-clause-inputs
returns-clause-inputs c =
    map-four _ c.args.inputs _ _ _ _ (search rules)
    (hash-is _ _ c.from_number.ensures (c.hash_eight.ensures 0 (omega arith)) c.number.ensures)
    (hash-is _ _ c.from_number-2.ensures (c.hash_eight.ensures 1 (omega arith)) c.number-2.ensures)
    (hash-is _ _ c.from_number-3.ensures (c.hash_eight.ensures 2 (omega arith)) c.number-3.ensures)
    (hash-is _ _ c.from_number-4.ensures (c.hash_eight.ensures 3 (omega arith)) c.number-4.ensures)

pub returns-clause-others : goal.returns-clause-others
returns-clause-others c =
    map-four _ c.args.others _ _ _ _ (search rules)
    (hash-is _ _ c.from_number-5.ensures (c.hash_eight.ensures 4 (omega arith)) c.number-5.ensures)
    (hash-is _ _ c.from_number-6.ensures (c.hash_eight.ensures 5 (omega arith)) c.number-6.ensures)
    (hash-is _ _ c.from_number-7.ensures (c.hash_eight.ensures 6 (omega arith)) c.number-7.ensures)
    (hash-is _ _ c.from_number-8.ensures (c.hash_eight.ensures 7 (omega arith)) c.number-8.ensures)
