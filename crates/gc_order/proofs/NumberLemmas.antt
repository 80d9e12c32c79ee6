-- The number that a word of a command line spells is what `parse` reads.
use Rattle.gc_order.proofs.Names.{◌≡◌, ℕ, ◌<◌, ◌^◌, Bool, true, false, List, Result, Ok, Err, refl, arith, if◌then◌else◌, number_in}
use Rattle.std.specs.Result.{result_unwrap_or}
use Rattle.std.specs.Str.Parse.{ParsesUnsigned, digits_value, without_leading_plus}
use Rattle.clap.specs.ValueTests.{accepts}
use Rattle.clap.specs.declared.builder.value_parser.ValueParser.TheVariants.{Unsigned}
use Rattle.clap.proofs.ValueTestLemmas.{accepts-Accepts, Accepts-accepts}

refused : (b : Bool) (n : ℕ) → (b ≡ true → ⊥) → 0 ≡ (if b then n else 0)
refused true n other = absurd (other refl)
refused false n other = refl

pub number-parsed : {E : Type 0} (text : List ℕ) (r : Result ℕ E) → ParsesUnsigned 32 10 text r
    → result_unwrap_or r 0 ≡ number_in text
number-parsed text (Ok n) (fits, same) =
    let number = digits_value 10 (without_leading_plus text) in
    let small : number < 2 ^ 32 = fits.1 in
    let taken : accepts false (Unsigned 0 4294967295) text ≡ true =
    Accepts-accepts false (Unsigned 0 4294967295) text
    (fits.0, omega arith, omega arith, omega arith) in
    rw taken same
number-parsed text (Err e) other =
    refused _ (digits_value 10 (without_leading_plus text)) (λ taken.
    let is = accepts-Accepts false (Unsigned 0 4294967295) text taken in other (is.0, omega arith))
