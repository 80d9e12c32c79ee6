use Rattle.std.proofs.Common.{◌≡◌, ◌+◌, ◌*◌, [], List, ℕ, get_or, length, map, arith, sym, ◌∙◌}
use Rattle.std.proofs.lemmas.Grind.{common_steps}
use Rattle.sha2.proofs.Schedule256.{IsWindow_first, slice_index-schedule_first}
use Rattle.gc_lanes.specs.Chain.{block_at}
use Rattle.gc_lanes.specs.Lanes.{lane, words_of_lane}
use Rattle.gc_lanes.proofs.Chains.{scheduled-first}
use Rattle.gc_lanes.proofs.OneBlock.{lane_at}
use Rattle.gc_lanes.proofs.side_by_side.fill_window.Goals as goal

pub returns : goal.returns
returns c = λ j lt.
    let window = c.words.window in
    let n = c.args.block in
    let m : List ℕ = get_or (map (λ message. message.now) c.args.messages.now) j [] in
    let done : c.words.t ≡ 16 = omega arith in
    let long : length (words_of_lane lane j window) ≡ 16 = grind (arith, common_steps) in
    IsWindow_first (block_at m n) (words_of_lane lane j window) long (λ k below.
    sym (lane_at lane j window k [] (omega arith)) ∙ c.words.invariant.1 j k lt (omega arith)
    ∙ scheduled-first m n k (64 * n + 4 * k) below (omega arith)
    ∙ slice_index-schedule_first (block_at m n) 48 k below)
