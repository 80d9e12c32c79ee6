use Rattle.gc_tests.proofs.stores.gates_go_in_order.Given as goal

abbrev pub ghosts-take_all : goal.ghosts-take_all
ghosts-take_all a = record { name = a.ledger.name; parts = a.ledger.parts }
