use Rattle.std.proofs.Common.{[], arith}
use Rattle.std.proofs.lemmas.List.{append-nil, drop_all}
use Rattle.gc_explain.proofs.ended.Ended.labels_again.Goals as goal

pub returns : goal.returns
returns g c =
    let none = drop_all c.loop-name.name-index c.args.names.now (omega arith) in
    rw append-nil at (c.loop-name.invariant [] (rw none tt))
