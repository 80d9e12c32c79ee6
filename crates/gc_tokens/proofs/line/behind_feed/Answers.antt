use Rattle.gc_tokens.proofs.Names.{sym, ap, arith, take_rest, is_blank}
use Rattle.gc_tokens.proofs.TokenLemmas.{past_blank}
use Rattle.gc_tokens.proofs.CutLemmas.{keeps_behind}
use Rattle.gc_tokens.proofs.line.behind_feed.Goals as goal

pub returns-then-first-eq10 : goal.returns-then-first-eq10
returns-then-first-eq10 c =
    let text = c.args.text.now in
    let blank = ap is_blank c.if-first-eq10.true in
    rw (take_rest text 1) (record {
      same = sym (past_blank text 0 (omega arith) blank);
      cuts = keeps_behind text 0 (omega arith) blank;
    })
