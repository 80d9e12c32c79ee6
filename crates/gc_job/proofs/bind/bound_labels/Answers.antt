use Rattle.gc_job.proofs.Names.{◌∙◌, sym, ArePlaces}
use Rattle.gc_job.proofs.JoinLemmas.{places_front, missing_file, joined-bound, places-inside}
use Rattle.gc_job.proofs.bind.bound_labels.Goals as goal

pub returns-then-is_missing-clause-err : goal.returns-then-is_missing-clause-err
returns-then-is_missing-clause-err g c = λ _.
    let marked : ArePlaces c.args.files.now c.split_at.result.0.now =
    rw c.split_at.ensures.front (places_front _ _ _ c.in_ok-places.ensures.places) in
    rw (← c.input_widths-widths.ensures) (missing_file _ _ c.in_ok-places.ensures.in_order _
    c.split_at.ensures.front_len marked (sym c.is_missing.ensures ∙ c.if-is_missing.true))

pub joined_labels-requires : goal.joined_labels-requires
joined_labels-requires g c =
    let marked : ArePlaces c.args.files.now c.split_at.result.0.now =
    rw c.split_at.ensures.front (places_front _ _ _ c.in_ok-places.ensures.places) in
    places-inside _ _ c.in_ok-places.ensures.in_order _ c.split_at.ensures.front_len marked
    (sym c.is_missing.ensures ∙ c.if-is_missing.false)

pub returns-clause-ok : goal.returns-clause-ok
returns-clause-ok g c =
    let marked : ArePlaces c.args.files.now c.split_at.result.0.now =
    rw c.split_at.ensures.front (places_front _ _ _ c.in_ok-places.ensures.places) in
    rw (← c.input_widths-widths.ensures) (joined-bound _ _ c.in_ok-places.ensures.in_order _
    c.split_at.ensures.front_len marked (sym c.is_missing.ensures ∙ c.if-is_missing.false) _
    c.in_ok-joined_labels.ensures)
