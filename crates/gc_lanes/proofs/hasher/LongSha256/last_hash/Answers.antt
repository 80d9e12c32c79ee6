use Rattle.gc_lanes.proofs.Names.{◌≡◌, ◌+◌, ◌-◌, ◌%◌, ℕ, length, take, arith, refl, ◌∙◌, length-take-le, initial_hash_256}
use Rattle.gc_lanes.proofs.Messages.{hashed-left}
use Rattle.gc_lanes.proofs.hasher.LongSha256.last_hash.Goals as goal

pub returns : goal.returns
returns c = λ m held.
    let b = c.args.self.now.buffer in
    let used : ℕ = c.used-used.result in
    let eights : ℕ = used - used % 512 in
    let is : used ≡ length m % 4096 = omega (arith, held.counted) in
    let width : eights + 512 - eights ≡ 512 = omega arith in
    let long : length (take eights b) ≡ eights = length-take-le eights b (omega arith) in
    let first = rw (long, held.hashed) at c.compress_eights.ensures in
    rw (width, first) at c.compress_blocks.ensures
    ∙ hashed-left initial_hash_256 m b used eights is refl held.left
