use Rattle.gc_tests.proofs.sleepers.each_sleeper_is_woken.Given as goal

abbrev pub ghosts-are_given : goal.ghosts-are_given
ghosts-are_given g a = record { name = a.ledger.name; parts = a.ledger.parts }
