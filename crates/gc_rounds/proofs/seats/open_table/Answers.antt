use Rattle.gc_rounds.proofs.Seating.{laid_fresh, opens}
use Rattle.gc_rounds.proofs.seats.open_table.Goals as goal

pub of_words-requires : goal.of_words-requires
of_words-requires g c = let w = c.second_word.ensures.word in let seats = c.requires.seats in
    rw (c.as_slice.ensures.value, c.in_ok-words.ensures.items_if_clones_equal (λ y h. h)) (
      opens _ _ c.args.size c.second_word.result _ w.0 w.1 w.2 w.3 seats.0 seats.1,
      g.met.I.KeptInner.opens _ _ _ _
          (rw (← c.requires.size.0) (laid_fresh c.args.size c.second_word.result w.0)) seats.0,
    )
