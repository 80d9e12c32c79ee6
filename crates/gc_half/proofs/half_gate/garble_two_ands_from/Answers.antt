use Rattle.gc_half.proofs.Names.{◌∙◌, hash, numbered_from}
use Rattle.gc_half.proofs.half_gate.garble_two_ands_from.Goals as goal

pub returns-clause-one : goal.returns-clause-one
returns-clause-one c =
    c.garbled.ensures (numbered_from c.args.first hash)
    (c.tweak_hash_eight-one_hashes.ensures.inputs ∙ c.hashed.ensures)

pub returns-clause-other : goal.returns-clause-other
returns-clause-other c =
    c.garbled-2.ensures (numbered_from c.args.first hash)
    (c.tweak_hash_eight-one_hashes.ensures.others ∙ c.hashed-2.ensures)
