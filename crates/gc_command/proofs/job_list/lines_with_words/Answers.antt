use Rattle.gc_command.proofs.Names.{rules, tests, map, ap, sym, ◌∙◌, lit<, YieldsList-at, YieldsList-from_filter, map_from_collect, YieldsList-from_str_split, IfOk-weaker, tokens, has_words, map-map}
use Rattle.gc_command.proofs.job_list.lines_with_words.Goals as goal

pub returns : goal.returns
returns g c =
    IfOk-weaker c.collect.result _ _
    (λ lines shown. sym (map-map tokens (λ x. x.now) lines.items) ∙ ap (map tokens) shown)
    (map_from_collect _ c.collect.ensures.ran (YieldsList-from_filter _
    (λ line. has_words (tokens line))
    (YieldsList-at c.filter.ensures.source (YieldsList-from_str_split 10 c.args.text.now (lit< tt)
    c.split.ensures.text c.split.ensures.has_more c.split.ensures.pattern))
    c.filter.ensures.closure (λ x r q k. search (rules, tests))))
