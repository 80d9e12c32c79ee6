use Rattle.std.proofs.Common.{arith}
use Rattle.std.proofs.lemmas.Slice.Zip.{AllZip-long}
use Rattle.halfgates_c.proofs.ManyLemmas.{all_under}
use Rattle.halfgates_c.proofs.many.garble_many.Goals as goal

pub give-requires : goal.give-requires
give-requires c = omega (
  arith,
  c.if-slots-seeds.false,
  AllZip-long _ _ _ c.in_ok-garblings.ensures.ok,
  AllZip-long _ _ _ c.in_ok-handles.ensures.ok,
)

pub returns-clause-ok : goal.returns-clause-ok
returns-clause-ok c = rw c.give.ensures
    (all_under c.args.circuit.now c.args.seeds.all.now c.in_ok-garblings.garblings.items
    c.in_ok-handles.handles.items
    c.in_ok-garblings.ensures.ok c.in_ok-handles.ensures.ok)
