use Rattle.gc_lanes.proofs.Names.{◌∙◌, rules, to_be_bytes, to_le_bytes, w64, w128, initial_hash_256}
use Rattle.gc_lanes.proofs.OneBlock.{IsWindow-padded_words, block, label-hash, last_words-label}
use Rattle.gc_lanes.proofs.hash.hash_each.Goals as goal

pub returns : goal.returns
returns g c = λ j l t lt is_label is_tweak.
    label-hash g.W.Words.lane j c.compress.result _ _ _ _ l t (search rules)
    (c.compress.ensures j (block l t) initial_hash_256 lt (λ state window begun. (
      begun.0 j lt,
      IsWindow-padded_words l t _ (begun.1 j (to_be_bytes w128 l) (to_le_bytes w64 t) lt
          (is_label ∙ last_words-label l) is_tweak),
    )))
