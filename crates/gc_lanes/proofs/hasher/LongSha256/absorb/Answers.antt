use Rattle.gc_lanes.proofs.Names.{common_steps, ◌≡◌, ◌+◌, ◌-◌, ◌%◌, ◌<◌, ◌≤◌, ℕ, List, [], ◌++◌, length, take, drop, arith, refl, ◌∙◌, length-drop, append-nil, drop_all, length-take-le, take_rest, initial_hash_256, total_append}
use Rattle.std.proofs.lemmas.Slice.{take-put_mid}
use Rattle.gc_lanes.proofs.Messages.{hashed-long, hashed-short, left-long, left-short}
use borrow.Rule.Slice.PartMut.{post_of, put_mid}
use Rattle.gc_lanes.proofs.hasher.LongSha256.absorb.Goals as goal

pub returns-then-piece-room : goal.returns-then-piece-room
returns-then-piece-room c = λ m held.
    let s = c.args.self.now in
    let d = c.args.piece.now in
    let used : c.used-used.result ≡ length m % 4096 = omega (arith, held.counted) in
    let short : length m % 4096 + length d < 4096 = omega arith in
    record {
      counted = total_append s.total _ m d held.counted refl;
      hashed = held.hashed ∙ hashed-short m d initial_hash_256 short;
      left = left-short m d s.buffer _ short held.left
          (rw (← used, c.copy_from_slice.ensures.after)
          (take-put_mid c.used-used.result _ s.buffer d (c.used-used.result + length d) refl
          (omega arith)));
    }

pub returns : goal.returns
returns c = λ m held.
    let s = c.args.self.now in
    let d = c.args.piece.now in
    let used : ℕ = c.used-used.result in
    let room : ℕ = 4096 - used in
    let end : ℕ = length d - (length d - room) % 4096 in
    let is : used ≡ length m % 4096 = omega (arith, held.counted) in
    let left_room : room ≡ 4096 - length m % 4096 = omega arith in
    let fits : room ≤ length d = omega arith in
    let before : List ℕ = take (length m % 4096) s.buffer ++ take room d in
    let full : post_of used room s.buffer ≡ [] =
    drop_all room (drop used s.buffer) (omega (arith, length-drop used s.buffer)) in
    let filled : put_mid used room s.buffer c.copy_from_slice-2.new.self ≡ before =
    rw (full, append-nil c.copy_from_slice-2.new.self, c.copy_from_slice-2.ensures.after, is)
    refl in
    let wide : length before ≡ 4096 = grind (arith, common_steps) in
    let middle : length (take (end - room) (drop room d)) ≡ end - room =
    length-take-le (end - room) (drop room d) (omega (arith, length-drop room d)) in
    let first = rw (filled, wide, held.hashed) at c.compress_eights.ensures in
    let second = rw (first, middle) at c.compress_eights-2.ensures in
    record {
      counted = total_append s.total _ m d held.counted refl;
      hashed = second ∙ hashed-long m d initial_hash_256 s.buffer room end left_room fits refl
          held.left;
      left = left-long m d _ c.copy_from_slice-3.new.self _ room end left_room fits refl refl
          (c.copy_from_slice-3.ensures.after ∙ take_rest d end);
    }
