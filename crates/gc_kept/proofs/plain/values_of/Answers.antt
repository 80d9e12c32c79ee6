use Rattle.gc_kept.proofs.Names.{arith, flat_map-map, sym, ◌∙◌}
use Rattle.gc_kept.proofs.FileLemmas.{enough, ended}
use Rattle.gc_kept.proofs.plain.values_of.Goals as goal

pub split_at-requires : goal.split_at-requires
split_at-requires c =
    let so_far = c.loop-width.invariant in
    enough (λ bits. bits) _ _ _ _ _ so_far.bits (sym so_far.widths) c.requires (omega arith)

pub returns-clause-bits : goal.returns-clause-bits
returns-clause-bits c =
    let so_far = c.loop-width.invariant in
    sym (ended (λ bits. bits) _ _ _ _ _ so_far.bits (sym so_far.widths) c.requires (omega arith)
    ∙ flat_map-map (λ bits. bits) (λ v. v.items) c.loop-width.values.items)
