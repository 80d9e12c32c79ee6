use Rattle.gc_tokens.proofs.Names.{◌≡◌, ℕ, ◌+◌, ◌-◌, ◌%◌, ◌<◌, length, take, slice_index, replicate, ltb, w8, mod-lt, pow_pos, ◌∙◌, arith, length-take-le, get_or-take}
use Rattle.std.proofs.lemmas.Simd.{bitmask_splat, length-zip2, get_or-zip2, get_or-replicate}
use lib.Lanes.{zip2}
use Rattle.gc_tokens.proofs.DigitLemmas.{bit_inverted, bit_of, wrapped_digit}
use Rattle.gc_tokens.proofs.digits.stop_bits.Goals as goal

pub returns : goal.returns
returns c i low clear =
    let text = c.args.text.now in
    let v = take 32 (take 32 text) in
    let off : ℕ → ℕ → ℕ = λ a b. (a + (256 - b)) % 256 in
    let front = length-take-le 32 text c.requires in
    let long : length v ≡ 32 = length-take-le 32 (take 32 text) (omega arith) in
    let lanes = zip2 off v (replicate 32 48) in
    let same : length lanes ≡ 32 = length-zip2 off v (replicate 32 48) long ∙ long in
    let mask = bitmask_splat w8 ltb lanes 32 10 same (omega arith) in
    let set = bit_inverted _ i (mod-lt _ (pow_pos 64)) low clear in
    let told = bit_of (λ x. ltb x 10) lanes i (rw mask at set) in
    let within : i < 32 = omega (arith, told.0, same) in
    let lane = get_or-zip2 off v (replicate 32 48) i 0 0 0 (omega arith) within in
    let byte = get_or-take 32 (take 32 text) i 0 within ∙ get_or-take 32 text i 0 within in
    wrapped_digit (slice_index text i) (c.type_inv.text i).fits
    (rw (lane, get_or-replicate {A = ℕ} 32 i 48 0 within, byte) at told.1)
