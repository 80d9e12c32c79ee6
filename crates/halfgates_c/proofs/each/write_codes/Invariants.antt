use Rattle.halfgates_c.proofs.Names.{◌≡◌, map, take, outcome_code}
use Rattle.halfgates_c.proofs.each.write_codes.Given as goal

abbrev pub invariant-loop-i : goal.invariant-loop-i
invariant-loop-i l = take l.i l.codes ≡ map outcome_code (take l.i l.outcomes)
