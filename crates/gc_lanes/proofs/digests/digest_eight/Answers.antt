use Rattle.gc_lanes.proofs.Names.{◌≡◌, ◌+◌, ◌<◌, ℕ, List, [], get_or, length, map, slice_set, take, rules, arith, sym, ◌∙◌, common_steps, get_or-map, sha256}
use Rattle.gc_lanes.proofs.digests.digest_eight.Goals as goal

-- one item more
take-set-more : (xs ys : List (List ℕ)) (i : ℕ) (x : List ℕ) → i < length xs → i < length ys
    → take i xs ≡ take i ys → x ≡ get_or ys i [] → take (i + 1) (slice_set xs i x) ≡ take (i + 1) ys
take-set-more xs ys i x below within same item = grind (arith, common_steps)

pub messages-preserved : goal.messages-preserved
messages-preserved c =
    let i = c.messages.i in
    let ds = c.messages.digests in
    let ms = c.args.messages.now in
    let ys : List (List ℕ) = map (λ message. sha256 message.now) ms in
    let within : i < length ys = grind (arith, common_steps) in
    let item = sym (get_or-map (λ message. sha256 message.now) ms i _ [] (omega arith)) in (
      search rules,
      take-set-more ds ys i _ (omega arith) within c.messages.invariant.1
          (c.digest_rest-digest.ensures ∙ item),
    )
