use Rattle.gc_command.proofs.Names.{sym, ap, ◌∙◌, tokens, blank_passed, has_words}
use Rattle.gc_command.proofs.JobListLemmas.{some_word, no_word}
use Rattle.gc_command.proofs.job_list.has_words.Goals as goal

pub returns-then-not-is_blank : goal.returns-then-not-is_blank
returns-then-not-is_blank c =
    let bytes = c.as_bytes-byte-items.result.now in
    sym (some_word bytes c.loop-byte.byte-index c.loop-byte-test.true (sym c.is_blank.ensures
    ∙ c.if-not-is_blank.true) c.loop-byte.invariant)
    ∙ ap (λ l. has_words (tokens l)) c.as_bytes-byte-items.ensures.value

pub loop-byte-preserved : goal.loop-byte-preserved
loop-byte-preserved c =
    blank_passed c.as_bytes-byte-items.result.now c.loop-byte.byte-index c.loop-byte-test.true
    (sym c.is_blank.ensures
    ∙ c.if-not-is_blank.false) c.loop-byte.invariant

pub returns : goal.returns
returns c =
    sym (no_word c.as_bytes-byte-items.result.now c.loop-byte.byte-index c.loop-byte-test.false
    c.loop-byte.invariant)
    ∙ ap (λ l. has_words (tokens l)) c.as_bytes-byte-items.ensures.value
