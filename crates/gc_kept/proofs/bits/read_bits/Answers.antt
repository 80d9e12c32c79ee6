use Rattle.gc_kept.proofs.Names.{and_parts, and_cases, ◌≡◌, ◌≢◌, ℕ, ◌+◌, ◌<◌, ◌++◌, Bool, true, false, List, [], ◌∷◌, length, map, take, get_or, inl, inr, arith, rules, nat_eq, nat_lt, take_more, slice_get-get_or, bit_number}
use Rattle.std.proofs.lemmas.Bool.Decides.{nat_tests}
use Rattle.std.proofs.lemmas.Grind.{common_steps}
use Rattle.gc_kept.proofs.bits.read_bits.Goals as goal

-- A byte below 2 is the number of its bit.
number_of : (byte : ℕ) → nat_lt byte 2 ≡ true → bit_number (nat_eq byte 1) ≡ byte
number_of byte h = grind (arith, nat_tests)

-- Another is that of none.
of_none : (byte : ℕ) → nat_lt byte 2 ≡ false → (bit : Bool) → byte ≢ bit_number bit
of_none byte h true = λ is. grind (arith, nat_tests)
of_none byte h false = λ is. grind (arith, nat_tests)

-- One more byte.
more : (bytes : List ℕ) (bits : List Bool) (i : ℕ) → i < length bytes
    → nat_lt (get_or bytes i 0) 2 ≡ true
    → take i bytes ≡ map bit_number bits
    → take (i + 1) bytes ≡ map bit_number (bits ++ nat_eq (get_or bytes i 0) 1 ∷ [])
more bytes bits i inside small before =
    rw (take_more bytes i 0 inside, before) (grind (arith, common_steps, number_of))

pub loop-byte-preserved : goal.loop-byte-preserved
loop-byte-preserved c =
    let bytes = c.args.bytes.now in
    let i = c.loop-byte.byte-index in
    let inside : i < length bytes = omega arith in
    let before = c.loop-byte.invariant in
    let items : c.push.new.self.items ≡ c.loop-byte.bits.items ++ nat_eq (get_or bytes i 0) 1 ∷ [] =
    search rules in
    record {
      count = rw items (grind (arith, common_steps));
      bits = λ all.
          let parts = and_parts c.loop-byte.are_bits (nat_lt (get_or bytes i 0) 2) all in
          rw items (more bytes c.loop-byte.bits.items i inside parts.1 (before.bits parts.0));
      bad = λ some. elim (and_cases c.loop-byte.are_bits (nat_lt (get_or bytes i 0) 2) some) [
        | inl already ↦ before.bad already
        | inr here ↦ record {
          place = i;
          byte = get_or bytes i 0;
          at = slice_get-get_or bytes i 0 inside;
          bad = of_none (get_or bytes i 0) here;
        }
      ];
    }
