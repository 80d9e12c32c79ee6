use Rattle.gc_command.proofs.Names.{◌≡◌, rules, tests, map, ap, ◌∙◌, sym, length, length-map, map_from_collect, YieldsList-at, map-map, sha256, garbled_bytes}
use Rattle.std.proofs.lemmas.Iterator.{YieldsList-from_slice, YieldsList-from_map_by}
use Rattle.gc_file.specs.Reading.{before_trailer}
use Rattle.gc_command.proofs.line_group.trailers_due.Goals as goal

pub returns : goal.returns
returns g c =
    let collected = map_from_collect c.collect.result c.collect.ensures.ran
    (YieldsList-from_map_by _ (λ message. message.now)
    (λ files. before_trailer (garbled_bytes files))
    (YieldsList-at c.map.ensures.source (YieldsList-from_slice c.args.read.now c.iter.ensures.rest))
    c.map.ensures.closure (λ x r q k. search (rules, tests))) in
    let shown = rw c.in_ok-messages.was at collected in
    let read = c.args.read.now in
    let messages = c.in_ok-messages.messages.items in
    let count : length messages ≡ length read =
    sym (length-map messages (λ message. message.now)) ∙ ap length shown
    ∙ length-map read (λ files. before_trailer (garbled_bytes files)) in
    rw (c.deref.ensures.value, count) at c.digest_eight.ensures
    ∙ sym (map-map sha256 (λ message. message.now) messages)
    ∙ ap (map sha256) shown
    ∙ map-map sha256 (λ files. before_trailer (garbled_bytes files)) read
