use Rattle.gc_command.proofs.Names.{rules, tests, YieldsList-at, YieldsList-from_filter, map_from_collect, YieldsList-from_slice_split, is_blank, is_some_run, tokens}
use Rattle.gc_command.proofs.JobListLemmas.{is_run}
use Rattle.gc_command.proofs.job_list.tokens_of.Goals as goal

pub returns : goal.returns
unfolding tokens
returns g c =
    map_from_collect _ c.collect.ensures.ran (YieldsList-from_filter _ is_some_run
    (YieldsList-at c.filter.ensures.source (YieldsList-from_slice_split _ is_blank c.args.line.now
    c.split.ensures.rest c.split.ensures.done c.split.ensures.closure
    (λ x r q k. search (rules, tests))))
    c.filter.ensures.closure (λ x r q k. search (rules, tests, is_run)))
