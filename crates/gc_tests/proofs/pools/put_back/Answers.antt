use Rattle.gc_work.proofs.PoolMoves.{AllOf-push}
use Rattle.gc_tests.proofs.pools.put_back.Goals as goal

pub returns : goal.returns
returns g c = rw c.in_ok-push.ensures.items (AllOf-push _ _ _ c.requires.all c.requires.own)
