-- The names that most proofs of this crate cite, passed on from one place. Declares nothing.
pub use Rattle.std.proofs.Common.{◌≡◌, ◌≢◌, List, [], ◌∷◌, ◌++◌, map, Option, Some, None, MatchOption, refl, ap, arith, ℕ, ◌+◌, Bool, length, length-append, append_assoc, Ok, take, slice_get, inr, count_by, ◌∙◌, suc, ◌*◌, ◌<◌, ◌↔◌, ◌⊎◌, inl, length-set, set, cond, true, sym, IsTrue, get_or, slice_index, ◌≤◌, ◌==◌, is_some, false, if◌then◌else◌, subst, replicate, ◌-◌, ◌/◌, ltb, ◌^◌}
pub use Rattle.std.proofs.lemmas.Bool.{cases_eq, cases_lt}
pub use Rattle.std.proofs.lemmas.Bool.Decides.{nat_tests, Decides-eqb, Decides-ltb}
pub use Rattle.std.proofs.lemmas.List.{map_push, take_more, length-map, take-take, get_or-set_same, get_or-set_other, get_or-replicate, get_or_read, get_or_past, same_lists}
pub use Rattle.std.proofs.lemmas.Option.{slice_get_within, get_or_from_slice_get, slice_get-get_or, slice_get-map, slice_get_cases, gets, slice_get_read}
pub use Rattle.std.specs.List.{position_or_len, range_with_len}
pub use Rattle.gc_half.proofs.AndNumbers.{and_number-and, and_number-below}
pub use Rattle.gc_half.proofs.CanonicalLemmas.{zero_label_of-gate, canonical-garbling, zero_label_of-input}
pub use Rattle.gc_half.specs.Canonical.{zero_label_of, no_rows}
pub use Rattle.gc_half.specs.declared.garbling.RowPair.{RowPair}
pub use Rattle.gc_label.specs.Seed.{offset_of, input_label_of}
pub use Rattle.gc_netlist.proofs.SolutionLemmas.{EachRead-map}
pub use Rattle.gc_netlist.proofs.Tables.{read-table, IsSetBefore-below, length-table, set-table, EachRead-below}
pub use Rattle.gc_netlist.specs.Circuit.{Netlist, EachRead, IsLawful, is_and, and_number, IsSet, IsSetBefore, output_wires, input_wires, and_count, first_wire, second_wire}
pub use Rattle.gc_netlist.specs.declared.gate.Gate.{Gate}
pub use Rattle.gc_netlist.specs.declared.gate.Operation.{Operation}
pub use Rattle.gc_half.proofs.ListLemmas.{count_by-set, count_by-set_more, count_by-map, one_place, slice_get-set_same, count_by-all, count_by-all_back, count_by-found, count_by-some, count_by-both, slice_get-set_other, slice_get-table, count_by-replicate, slice_get-replicate, count_by-set_less}
pub use Rattle.gc_store.specs.Queue.{GateProgress, is_busy, with_mark, Takes, freed, IsQueue}
pub use Rattle.gc_store.specs.Readers.{picked_reads, reads_of, unknown_reads, IsLinked, read_count, IsReadOf, IsNextRead, IsLinkedFrom, picked}
pub use Rattle.gc_store.specs.Content.{Content, State, Free, Claimed, Finished, is_finished, is_claimed, has_rows, IsClaimed, IsFinished, IsKnown, IsReady, AllFinished, IsLawfulContent, opened}
unfoldable pub use Rattle.gc_store.specs.Kept.{states_of}
pub use Rattle.gc_store.specs.Kept.{Tables, queue_of, content_of, IsKept, IsAwaited, IsStored, ReadsKnown, finished_state, state_at}
pub use Rattle.gc_store.specs.Shared.{FinishesEach}
pub use Rattle.gc_store.specs.Step.{Claims, ClaimsAll, ClaimsSome, Finishes, reopened, with_sealed, IsOwnTask}
pub use Rattle.gc_store.specs.Task.{sealed_zero_label, sealed_rows, task_of}
pub use Rattle.gc_store.specs.declared.task.Task.{Task}
pub use Rattle.std.proofs.lemmas.List.Sums.{sum_by-take-le, passes_at_first, count_by-le-length}
pub use Rattle.std.proofs.Math.ListN.{length-replicate, get_or-map}
pub use Rattle.std.proofs.lemmas.List.FromFn.{fill_by_all, map-range_with_len_more}
pub use Rattle.gc_store.specs.declared.gate_state.GateState.{GateState}
pub use Rattle.gc_store.specs.Opening.{is_below, opening_countdown}
pub use Rattle.std.proofs.lemmas.Grind.{common_steps}
pub use Rattle.gc_store.specs.GateSet.{IsGateSet}
pub use Rattle.gc_workers.specs.NumberSet.{Adds, Has, Removes}
