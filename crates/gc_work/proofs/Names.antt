-- The names that most proofs of this crate cite, passed on from one place. Declares nothing.
pub use Rattle.std.proofs.Common.{◌≡◌, ℕ, ◌+◌, ◌<◌, Bool, true, false, cond, List, [], ◌∷◌, ◌++◌, length, Option, Some, None, MatchOption, sym, refl, ap, ◌∙◌, append_assoc, rules, arith, inl, inr, set, slice_get, zero, suc, ◌-◌, ◌^◌, ◌≤◌, append-nil, subst, Ok, count_by, length-set, All}
pub use Rattle.std.proofs.lemmas.List.Elements.{All-pop, All-push}
pub use Rattle.std.proofs.lemmas.List.Sums.{sum_by-cons, sum_by-append, sum_by_push, count_by-le-length}
pub use Rattle.std.specs.Vec.Iter.{into_iter_items}
pub use Rattle.atomic_blocks.specs.Lent.{RowsId}
pub use Rattle.crossbeam_deque.specs.Handles.{worker_view, worker_deque, stealer_deque, worker_capacity, worker_index}
pub use Rattle.gc_workers.proofs.Whole.{whole_back}
pub use Rattle.gc_half.proofs.RowLemmas.{slice_get-append, slice_get-push}
pub use Rattle.gc_store.specs.declared.task.Task.{Task}
pub use Rattle.gc_work.specs.Kept.{IsGathered, IsOwning}
pub use Rattle.gc_work.specs.Places.{ArePlaced, AreOwners, AreAllPlaced, IsPlacedWorker}
pub use Rattle.gc_work.specs.Pool.{IsTakenFrom, weigh, ThiefParts, AllOf, stolen_by}
pub use Rattle.gc_work.specs.PoolRule.{account, all_parts, AccountsFor, AccountsForSome, total, gone, IsEmptyIfIdle, IdleIsEmpty, IsBalanced}
pub use Rattle.gc_work.specs.declared.account.PoolAccount.{PoolAccount}
