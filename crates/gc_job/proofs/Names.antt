-- The names that most proofs of this crate cite, passed on from one place. Declares nothing.
pub use Rattle.std.proofs.Common.{◌≡◌, ℕ, ◌+◌, ◌-◌, ◌<◌, List, length, slice_get, Some, Bool, Result, Ok, Err, refl, sym, ◌∙◌, arith, IfOk, ◌≢◌, ◌≤◌, inl, inr, set, length-set, get_or-set_same, get_or-set_other, true, false, [], take, get_or, Option, None, is_some, MatchOption, not, eqb, ltb, zero, suc, ◌∷◌, ◌++◌, map, sum, drop, is_none, flat_map, IsSomeAnd, ap, length-take, MatchResult, length-drop, ◌⊎◌, ⊎_elim, IfSome, Vec, slice_index, IsTrue, ◌↔◌, ◌&&◌, subst, add-one, rules, replicate}
pub use Rattle.std.proofs.lemmas.Bool.{cases_eq, cases_Bool}
pub use Rattle.std.proofs.lemmas.Bool.Decides.{Decides-eqb, nat_tests}
pub use Rattle.std.proofs.lemmas.List.{length-map, take_at, drop_at, drop-drop, get_or-take, take_more, append-nil, same_lists, get_or-map, get_or_default, take-append-drop, length-append, map-append, map_more, get_or_read, length-take-le, get_or-drop, take_all, get_or-replicate}
pub use Rattle.std.proofs.lemmas.List.Concat.{flat_map-append, length-flat_map}
pub use Rattle.std.proofs.lemmas.List.FromFn.{length-map-range_with_len, get_or-map-range_with_len, length-range_with_len, get_or-range_with_len}
pub use Rattle.std.proofs.lemmas.List.Sums.{sum-map, sum_by-cons}
pub use Rattle.std.proofs.lemmas.Option.{slice_get_within, get_or_from_slice_get, slice_get_read, slice_get-map, same_Some, slice_get-get_or}
pub use Rattle.std.proofs.lemmas.Result.{err_from_is_err_and}
pub use Rattle.std.proofs.lemmas.Slice.Zip.{length-zip, get_or-zip}
pub use Rattle.std.specs.List.{list_any, range_with_len, zip}
pub use Rattle.std.specs.Result.{result_map_both}
pub use Rattle.gc_circuit.specs.Meaning.{AreOutputs, xor, bits_of, bit_rule, IsAssignment}
pub use Rattle.gc_file.specs.GarbledFile.{GarbledParts}
pub use Rattle.gc_file.specs.LabelFile.{LabelFileParts, encoded_from}
pub use Rattle.gc_half.proofs.AndNumbers.{and_number-below, and_number-and, and_number-other}
pub use Rattle.gc_half.specs.Entry.{label_of_colour, output_tweak, entry_of}
pub use Rattle.gc_half.specs.Evaluation.{active_rule, IsEvaluation, encode, decode, row_at}
pub use Rattle.gc_half.specs.Hash.{hash}
pub use Rattle.gc_job.specs.Binding.{IsBound, HasFile, IsFileInOrder, AreInOrder, LabelsFault, double_value, FirstLabelsFault, missing_value, AreBound, HasCounts, no_such_value, wrong_width, of_file, FirstBindFault, other_circuit, other_counts, of_labels}
pub use Rattle.gc_job.specs.Evaluate.{labels_of, IsDecodingOf, IsEvaluated, entry, IsRecognised, AreRecognised, IsKnownUntil}
pub use Rattle.gc_job.specs.Honest.{IsHonest, AreHonestFiles, HonestFilesLaw}
pub use Rattle.gc_job.specs.Job.{JobParts, IsWhole}
pub use Rattle.gc_job.specs.Jobs.{AreBitsOf, AreEvaluated, EvaluateTo, AreKnown}
pub use Rattle.gc_job.specs.Places.{IsFileFor, ArePlaces, labels_at}
pub use Rattle.gc_job.specs.Wiring.{AreSetters}
pub use Rattle.gc_job.specs.declared.fault.BindFault.TheVariants.{DoubleValue, MissingValue}
pub use Rattle.gc_job.specs.declared.fault.EvalFault.{EvalFault}
pub use Rattle.gc_job.specs.declared.fault.EvalFault.TheVariants.{Memory, BadWorkers, UnknownOutputLabel}
pub use Rattle.gc_label.specs.Label.{colour}
pub use Rattle.gc_netlist.proofs.SolutionLemmas.{solution_solves}
pub use Rattle.gc_netlist.proofs.Tables.{read-table, length-table}
pub use Rattle.gc_netlist.specs.Circuit.{Netlist, output_wires, IsLawful, IsSetBy, input_wires, and_count, and_number, is_and}
pub use Rattle.gc_netlist.specs.Solution.{solution, on_outputs}
