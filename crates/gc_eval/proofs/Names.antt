-- The names that most proofs of this crate cite, passed on from one place. Declares nothing.
pub use Rattle.std.proofs.Common.{◌≡◌, ℕ, ◌*◌, ◌+◌, ◌<◌, [], ◌∷◌, inl, sym, ◌∙◌, arith, length, All, ◌≤◌, inr, ap, ⊎_elim, Ok, Err, ◌-◌, map}
pub use Rattle.std.proofs.lemmas.List.Elements.{All-push, All-set}
pub use Rattle.std.proofs.lemmas.List.FromFn.{map-range_with_len_more}
pub use Rattle.std.proofs.lemmas.Result.{err_from_is_err_and}
pub use Rattle.std.specs.List.{range_with_len}
pub use Rattle.std.specs.Slots.{slots_items, slots_len}
pub use Rattle.gc_workers.proofs.Sums.{only_same, only_other, total-append}
pub use Rattle.gc_workers.specs.Counts.{total, only}
pub use Rattle.gc_eval.specs.Done.{done_of, HasLabel, state_of}
pub use Rattle.gc_eval.specs.Seats.{IsNew, view, IsSeatOf}
pub use Rattle.gc_eval.specs.Views.{Seen}
pub use Rattle.gc_eval.specs.Workers.{IsWorkerOf, AreWorkersOf}
pub use Rattle.gc_eval.specs.declared.seat.EvalSeat.{EvalSeat}
pub use Rattle.gc_job.proofs.WiringLemmas.{set_once, set_within}
pub use Rattle.gc_job.specs.ActiveLabels.{active, gates_of}
pub use Rattle.gc_netlist.specs.Circuit.{input_wires, output_wires, Netlist}
pub use Rattle.gc_gates.specs.Layout.{one_round}
pub use Rattle.gc_gates.specs.Pairs.{is_pair, pairs}
pub use Rattle.gc_gates.specs.Places.{IsGatePlace, IsPlaceInside}
pub use Rattle.gc_steps.proofs.GatherLemmas.{all_but_last, all_last, total_last, length_last, pairs_merged}
pub use Rattle.gc_steps.proofs.LabelLemmas.{active_solves, word_is, evaluated_outputs}
