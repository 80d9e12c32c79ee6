use Rattle.gc_tests.proofs.stores.opens_anew.Given as goal

abbrev pub ghosts-opens : goal.ghosts-opens
ghosts-opens a = record { name = a.ledger.name; parts = a.ledger.parts }
