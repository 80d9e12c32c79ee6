-- Any thread may give a block back, where any may to the inner allocator.
use mir.Syntax.{Dict}
use denote.Param.Send.{Frees}
use denote.RattleType.{RattleType}
use Rattle.std.specs.declared.alloc.Allocator.{Ghosts}
use Rattle.gc_fixtures.specs.contracts.refusing.RefusingAllocator.TheImpl.{ghosts}

pub frees : (B : RattleType) (g : Ghosts B.Denot) (d e : Dict) → Frees g g.dealloc_token
    → Frees (ghosts B g d e) (ghosts B g d e).dealloc_token
frees B g d e inner = record { frees = λ heap. inner.frees heap.inner }
