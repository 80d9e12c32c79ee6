-- The names that most proofs of this crate cite, passed on from one place. Declares nothing.
pub use Rattle.std.proofs.Common.{◌≡◌, ◌⊎◌, ℕ, ◌+◌, ◌<◌, ℤ, pos, inl, inr, Option, Some, None, List, [], ◌∷◌, ◌++◌, length, map, take, drop, get_or, refl, sym, ◌∙◌, ap, ◌≢◌, Result, Ok, Err, IfOk, IfErr, OnErr, subst, rules, arith, MatchOption, IsTrue, append-nil, ◌≤◌}
pub use Rattle.std.proofs.lemmas.List.{drop_more, map-append, take-append-drop, drop-replicate, nil_from_length, length-map}
pub use Rattle.gc_kept.specs.Garbling.{GarblingWith, IsGarblingUnder}
pub use Rattle.gc_kept.specs.declared.held.Held.{Held}
pub use Rattle.gc_kept.specs.declared.held.Held.TheVariants.{Circuit, Garbling, Job, Garbler, Evaluator}
pub use Rattle.halfgates_c.specs.Holding.{OfHandles, OfGarbling, OfJob}
unfoldable pub use Rattle.halfgates_c.specs.Borrowing.{handle_of}
pub use Rattle.std.specs.List.{AllZip, range_with_len}
pub use Rattle.gc_kept.specs.Circuit.{CircuitWith}
pub use Rattle.halfgates_c.specs.declared.slot.Slot.{Slot}
pub use Rattle.halfgates_c.specs.Reading.{HoldsGarbling, HoldsThis}
pub use Rattle.gc_kept.specs.declared.fault.KeptFault.{KeptFault}
pub use Rattle.halfgates_c.specs.ReturnsCode.{ReturnsCodeAndSize, IsReported, ReturnsCode}
pub use Rattle.std.proofs.lemmas.Int.{to_z-of_z}
pub use mir.Syntax.{w32}
pub use mir.Val.{SFits}
pub use Rattle.std.proofs.lemmas.Result.{err_from_is_err_and}
pub use Rattle.halfgates_c.specs.Each.{AreCodes, HasEachFault, outcome_code}
pub use Rattle.std.specs.Vec.Iter.{into_iter_items, into_iter_len}
