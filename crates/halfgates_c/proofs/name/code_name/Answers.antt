use Rattle.std.proofs.Common.{◌≡◌, ℕ, ℤ, pos, negsuc, nat_abs, true, false, refl, rules, arith, sym, ◌∙◌}
use Rattle.std.specs.Int.{FitsUnsignedBits}
use Rattle.std.specs.Prelude.{◌==◌}
use Rattle.gc_netlist.specs.Names.{fault_name}
use Rattle.halfgates_c.specs.Names.{is_code, name_of_code}
use Rattle.halfgates_c.proofs.name.code_name.Goals as goal

named : (code : ℤ) (n : ℕ) → FitsUnsignedBits 32 code → n ≡ nat_abs code → (n ≡ 0 → ⊥)
    → is_code n ≡ true → fault_name n ≡ name_of_code code
named (pos n) m fits same other is =
    let some : (n == 0) ≡ false = grind arith in rw (same, some, rw same at is) refl
named (negsuc n) m fits same other is = absurd fits

pub returns-then-is_code-clause-name : goal.returns-then-is_code-clause-name
returns-then-is_code-clause-name c =
    c.fault_name.ensures ∙ named c.args.code c.in-Ok.code (search rules) (search rules)
    c.if-code-eq0.false (sym c.is_code.ensures ∙ c.if-is_code.true)
