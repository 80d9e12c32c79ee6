use Rattle.std.proofs.Common.{◌∷◌, [], ◌++◌, subst}
use Rattle.gc_work.specs.Pool.{AllOf}
use Rattle.gc_work.proofs.PoolMoves.{AllOf-front, AllOf-last}
use Rattle.gc_tests.proofs.pools.take_one.Goals as goal

pub returns-in-Some : goal.returns-in-Some
returns-in-Some g c =
    let all : AllOf c.args.pool.now (c.pop.new.self.items ++ c.in-Some.thief ∷ []) =
    subst (λ ts. AllOf c.args.pool.now ts) c.in-Some.ensures.items c.requires in
    record { own = AllOf-last _ _ _ all; rest = AllOf-front _ _ _ all }
