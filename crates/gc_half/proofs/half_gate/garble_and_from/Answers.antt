use Rattle.gc_half.proofs.Names.{◌∙◌, hash, numbered_from}
use Rattle.gc_half.proofs.half_gate.garble_and_from.Goals as goal

pub returns : goal.returns
returns c =
    c.garbled.ensures (numbered_from c.args.first hash)
    (c.tweak_hash_four.ensures ∙ c.hashed.ensures)
