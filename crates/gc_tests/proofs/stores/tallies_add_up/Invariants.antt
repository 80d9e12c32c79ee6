use Rattle.gc_tests.proofs.stores.tallies_add_up.Given as goal

abbrev pub ghosts-adds_up : goal.ghosts-adds_up
ghosts-adds_up a = record { name = a.ledger.name; parts = a.ledger.parts }
