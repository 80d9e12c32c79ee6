use Rattle.std.proofs.Common.{arith}
use Rattle.gc_half.proofs.StreamingLemmas.{garbler-few}
use Rattle.gc_half.proofs.streaming_garbler.StreamingGarbler.left.Goals as goal

pub overflow_sub-result : goal.overflow_sub-result
overflow_sub-result g c =
    let few = garbler-few _ _ _ _ c.requires.so_far in
    omega (arith, rw (← c.self.view_is) at few, c.and_count.ensures)

pub returns : goal.returns
returns g c =
    let few = garbler-few _ _ _ _ c.requires.so_far in
    rw (← c.self.view_is) (omega (arith, rw (← c.self.view_is) at few, c.and_count.ensures))
