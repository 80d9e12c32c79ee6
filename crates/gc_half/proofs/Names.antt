-- The names that most proofs of this crate cite, passed on from one place. Declares nothing.
pub use Rattle.std.proofs.Common.{◌≡◌, ℕ, suc, ◌+◌, ◌<◌, ◌≤◌, ◌⊎◌, inl, inr, true, false, cond, length, slice_get, Some, refl, length-take, arith, rules, take_all, zero, ◌^◌, Bool, List, ⊎_elim, map, slice_index, sym, ap, ◌∙◌, ◌-◌, ◌++◌, [], ◌∷◌, take, drop, get_or, set, Option, MatchOption, add-one, if◌then◌else◌, ◌==◌, replicate, ◌*◌, not, ◌&&◌, subst, ◌≢◌, get_or-set_same, get_or-set_other, None, length-append, length-set, append_assoc, vec_len, slice_index_or}
pub use Rattle.std.proofs.lemmas.Bool.Decides.{nat_tests}
pub use Rattle.std.proofs.lemmas.Option.{gets, slice_get_cases, get_or_from_slice_get, slice_get_within}
pub use Rattle.gc_label.specs.Label.{◌⊕◌, times, colour}
pub use Rattle.gc_label.specs.Seed.{offset_of, input_label_of}
pub use Rattle.gc_netlist.proofs.SolutionLemmas.{solution_solves, agree, EachRead-map, after-keeps, IsSetBefore-more}
pub use Rattle.gc_netlist.specs.Circuit.{Netlist, is_and, and_number, and_count, input_wires, output_wires, IsLawful, IsSet, IsSetBy, IsSetBefore, EachRead, reads}
pub use Rattle.gc_netlist.specs.Solution.{Solves, IsLocal, put}
pub use Rattle.gc_netlist.specs.declared.gate.Gate.{Gate}
pub use Rattle.gc_netlist.specs.declared.gate.Operation.{Operation}
pub use Rattle.gc_netlist.specs.declared.gate.Operation.TheVariants.{And}
unfoldable pub use Rattle.gc_half.specs.Canonical.{rows_after}
pub use Rattle.gc_half.specs.Canonical.{input_zero, garbling_of, with_row_pair, with_operation}
pub use Rattle.gc_half.specs.Garbling.{zero_of, zero_rule, rows_of, IsGarbling, GarblingParts, decode_bits_of, IsGarbled}
pub use Rattle.gc_half.specs.OneGate.{first_read, second_read, gate_rows, gate_zero}
pub use Rattle.gc_half.specs.declared.garbling.RowPair.{RowPair}
pub use Rattle.std.specs.Prelude.{min}
pub use Rattle.std.specs.List.{range_with_len}
pub use Rattle.std.proofs.lemmas.Bool.{cases_eq, cases_lt}
pub use Rattle.std.proofs.lemmas.Grind.{common_steps}
pub use Rattle.std.proofs.lemmas.List.{get_or_past, get_or_append_left, get_or-append_right, length-map, take_at, append-nil}
pub use Rattle.std.proofs.lemmas.List.FromFn.{fill_by_all, length-map-range_with_len, get_or-map-range_with_len}
pub use Rattle.std.proofs.lemmas.Result.{IfOk-weaker}
pub use Rattle.gc_circuit.specs.Meaning.{xor, bit_of, bits_of, IsAssignment}
pub use Rattle.gc_netlist.proofs.Tables.{read-table, length-table, table_end, table_padded, table_step, IsSetBefore-below, EachRead-below, after-zero}
unfoldable pub use Rattle.gc_netlist.specs.Solution.{values_after}
pub use Rattle.gc_netlist.specs.Solution.{solution, on_outputs}
unfoldable pub use Rattle.gc_label.specs.Label.{label_of_bytes, bytes_of_label}
unfoldable pub use Rattle.gc_half.specs.Hash.{hash}
pub use Rattle.gc_half.specs.Hash.{numbered_from}
unfoldable pub use Rattle.gc_half.specs.FirstGates.{label_of}
pub use Rattle.gc_half.specs.FirstGates.{AreGarbled, labels_after}
pub use Rattle.gc_half.specs.Evaluation.{IsEvaluation, AreActiveFrom, encode, decode, decode_bits, active_of, active_rule, row_at}
pub use Rattle.gc_half.specs.Law.{Decodes}
pub use Rattle.gc_half.specs.Garbling.{IsGarbledFrom}
pub use Rattle.gc_half.specs.Joined.{output_zero_labels}
pub use Rattle.gc_half.specs.Waiting.{ZeroTableParts, NoneSets, rows_made, gates_in, active_label_by_step}
pub use Rattle.gc_half.specs.Streaming.{StreamingGarblerParts, StreamingEvaluatorParts, IsGarbledSoFar, IsEvaluatedSoFar, input_labels, active_after}
pub use Rattle.gc_half.specs.Pieces.{IsPieceAfter, GarblesOn, EndsPiece}
pub use Rattle.gc_half.specs.SideBySide.{CanStep, IsStep, IsOneGateMore}
pub use Rattle.gc_half.specs.Comparing.{AreCompared}
