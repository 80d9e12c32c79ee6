use Rattle.gc_work.proofs.garbling.garble.Given as goal

abbrev pub ghosts-garble_together : goal.ghosts-garble_together
ghosts-garble_together g a = record { name = a.ledger.name; parts = a.ledger.parts }
