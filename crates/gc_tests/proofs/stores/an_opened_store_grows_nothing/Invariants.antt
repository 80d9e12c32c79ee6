use Rattle.gc_tests.proofs.stores.an_opened_store_grows_nothing.Given as goal

abbrev pub ghosts-grows_nothing : goal.ghosts-grows_nothing
ghosts-grows_nothing a = record { name = a.ledger.name; parts = a.ledger.parts }
