use Rattle.std.proofs.Common.{refl}
use Rattle.gc_store.proofs.StoreLemmas.{opened_kept, opened_content, stored}
use Rattle.gc_store.proofs.partial.PartialGarbling.of.Goals as goal

pub invariant_of-result : goal.invariant_of-result
invariant_of-result g c =
    let begins = rw (← c.tables.view_is) at c.requires.tables in
    stored (opened_kept _ c.args.seed _ c.requires.readers begins.queue begins.tables refl
    refl _ c.offset.ensures)

pub returns : goal.returns
returns g c =
    let begins = rw (← c.tables.view_is) at c.requires.tables in
    opened_content _ c.args.seed _ c.requires.readers begins.queue begins.tables refl refl
