use Rattle.gc_tests.proofs.shared_stores.a_holder_leaves.Given as goal

abbrev pub ghosts-holder_leaves : goal.ghosts-holder_leaves
ghosts-holder_leaves g a = record { name = a.ledger.name; parts = a.ledger.parts }
