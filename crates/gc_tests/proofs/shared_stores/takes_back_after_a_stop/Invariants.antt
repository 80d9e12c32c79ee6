use Rattle.gc_tests.proofs.shared_stores.takes_back_after_a_stop.Given as goal

abbrev pub ghosts-takes_back : goal.ghosts-takes_back
ghosts-takes_back g a = record { name = a.ledger.name; parts = a.ledger.parts }
