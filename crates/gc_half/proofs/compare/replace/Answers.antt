use Rattle.std.proofs.Common.{◌≡◌, ◌+◌, ◌<◌, ◌++◌, ◌∷◌, [], length, take, sym, ap, ◌∙◌, arith, append_assoc}
use Rattle.std.proofs.lemmas.List.{take_more, take_more_set}
use Rattle.gc_half.proofs.ComparingLemmas.{compared-next}
use Rattle.gc_half.proofs.compare.replace.Goals as goal

pub loop-i-preserved : goal.loop-i-preserved
loop-i-preserved c =
    let i = c.loop-i.i in
    let place = c.args.from + i in
    let rows = c.loop-i.rows in
    let piece = c.args.piece.now in
    let made = c.index-piece-i.result in
    let next : c.args.from + (i + 1) ≡ place + 1 = omega arith in
    let below : place < length rows = omega (arith, c.requires, c.loop-i.auto.rows) in
    let more : take (i + 1) piece ≡ take i piece ++ made ∷ [] =
    take_more piece i made (omega arith)
    ∙ ap (λ x. take i piece ++ x ∷ []) (sym c.index-piece-i.is) in
    rw next (record {
      made = take_more_set rows place made below
          ∙ ap (λ l. l ++ made ∷ []) c.loop-i.invariant.made
          ∙ rw more (append_assoc (take c.args.from c.args.rows.now) (take i piece) (made ∷ []));
      compared = λ given is.
          compared-next given rows place c.index-rows-place.result made c.loop-i.first _ below
          c.index-rows-place.is c.next_mismatch-first.ensures
          (c.loop-i.invariant.compared given is);
    })
