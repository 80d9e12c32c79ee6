use Rattle.gc_command.proofs.Names.{List, map, arith, ap, ◌∙◌, length-map, take_all, tokens}
use Rattle.gc_command.proofs.JobListLemmas.{utf8_token, word_more}
use Rattle.gc_command.proofs.job_list.words_of_line.Goals as goal

pub loop-token-init : goal.loop-token-init
loop-token-init g c = ap (map (λ word. word.now)) c.in_ok-words.ensures.items

pub unreachable-requires : goal.unreachable-requires
unreachable-requires g c =
    c.in_default.ensures.cases.0 (utf8_token (λ part. part.now) c.args.line.now
    c.deref-token-items.result.now
    c.loop-token.token-index _ c.utf8.line
    (ap (map (λ part. part.now)) c.deref-token-items.ensures.value ∙ c.in_ok-tokens.ensures
    ∙ ap tokens c.as_bytes.ensures.value)
    c.loop-token-test.true)

pub loop-token-preserved : goal.loop-token-preserved
loop-token-preserved g c =
    ap (map (λ word. word.now)) c.in_ok-push.ensures.items
    ∙ word_more (λ word. word.now) c.loop-token.words.items c.in-Ok.word c.loop-token.token-index
    c.deref-token-items.result.now _ c.loop-token-test.true c.in-Ok.ensures.cases.0
    c.loop-token.invariant

pub returns : goal.returns
returns g c =
    let shown : List _ = map (λ part. part.now) c.deref-token-items.result.now in
    c.loop-token.invariant ∙ take_all c.loop-token.token-index shown
    (omega (
      arith,
      c.loop-token-test.false,
      length-map c.deref-token-items.result.now
          (λ part. part.now),
    ))
    ∙ ap (map (λ part. part.now)) c.deref-token-items.ensures.value ∙ c.in_ok-tokens.ensures
    ∙ ap tokens c.as_bytes.ensures.value
