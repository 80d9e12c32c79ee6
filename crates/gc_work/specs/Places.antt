-- Workers whose owner and thieves are at the pools of their places among all pools.
use Rattle.std.specs.Prelude.{◌≡◌, List, Some, slice_get, All}
use Rattle.std.specs.declared.vec.Vec.{Vec}
use Rattle.atomic_blocks.specs.Lent.{RowsId}
use Rattle.gc_work.specs.declared.steal.PlacedThief.{PlacedThief}
use Rattle.gc_work.specs.declared.worker.Worker.{Worker}
use Rattle.gc_work.specs.declared.workers.PlacedOwner.{PlacedOwner}

module _ {A : Type 0} where
  -- the thief is at the pool of its place
  abbrev pub IsAt : List (RowsId × A) → PlacedThief A → Type 0
  IsAt pools r = slice_get pools r.target ≡ Some r.thief.pool

  abbrev pub ArePlaced : List (RowsId × A) → List (PlacedThief A) → Type 0
  ArePlaced pools rs = All (λ r. IsAt pools r) rs

  -- each worker's thieves are at the pools of their places
  abbrev pub AreAllPlaced : List (RowsId × A) → List (Vec (PlacedThief A) A) → Type 0
  AreAllPlaced pools rows = All (λ row. ArePlaced pools row.items) rows

  -- each owner is of the pool of its place
  abbrev pub AreOwners : List (RowsId × A) → List (PlacedOwner A) → Type 0
  AreOwners pools owners = All (λ o. slice_get pools o.place ≡ Some o.owner.pool) owners

  -- the worker has the owner of the pool of its place, and its thieves are at the pools of theirs
  pub record IsPlacedWorker {L : Type 0} (pools : List (RowsId × A)) (w : Worker L A) : Type 0 where
    pub own : slice_get pools w.place ≡ Some w.owner.pool
    pub others : ArePlaced pools w.thieves.items
