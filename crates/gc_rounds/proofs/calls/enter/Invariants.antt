use Rattle.gc_rounds.proofs.calls.enter.Given as goal

abbrev pub ghosts-count_in : goal.ghosts-count_in
ghosts-count_in g a = record { round = a.round }
