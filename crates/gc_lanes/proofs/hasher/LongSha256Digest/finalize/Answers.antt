use Rattle.gc_lanes.proofs.Names.{◌≡◌, ◌*◌, ◌%◌, ◌^◌, ◌++◌, ℕ, List, length, arith, refl, ap, ◌∙◌, append_assoc, digest_bytes, padded_message, sha256}
use Rattle.gc_lanes.proofs.hasher.LongSha256Digest.finalize.Goals as goal

pub returns : goal.returns
unfolding sha256
returns c = λ m held.
    let total = c.args.self.total in
    let used : c.used-used.result % 64 ≡ length m % 64 = omega (arith, held.counted) in
    let bits : total * 8 % 2 ^ 64 ≡ length m * 8 % 2 ^ 64 = omega (arith, held.counted) in
    let first = rw used at c.padding.ensures in
    let second = rw bits at c.to_be_bytes.ensures in
    let whole : (m ++ c.padding.result.now) ++ c.to_be_bytes.result ≡ padded_message m =
    rw (append_assoc, first, second) refl in
    let last = c.last_hash.ensures _ (c.absorb-2.ensures _ (c.absorb.ensures m held)) in
    c.bytes_of.ensures ∙ ap (λ (h : List ℕ). digest_bytes h 8) (rw whole at last)
