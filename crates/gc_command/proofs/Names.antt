-- The names that most proofs of this crate cite, passed on from one place. Declares nothing.
pub use Rattle.std.proofs.Common.{All, Bool, Err, IfErr, IfOk, IfSome, IsCharBoundary, IsErrAnd, IsTrue, IsUtf8, List, MatchOption, MatchResult, None, Ok, Option, Result, Some, [], add-one, ap, append_assoc, ap₂, arith, codes, count_by, decimal, drop, drop-cons, false, filter, flat_map, get_or, inl, inr, length, lit<, map, min, not, of_calls, option_map, refl, replicate, rules, set, slice_get, slice_index, slice_index_or, string_bytes, subst, suc, sum, sym, take, tests, true, zero, ℕ, ◌%◌, ◌&&◌, ◌*◌, ◌++◌, ◌+◌, ◌-◌, ◌/◌, ◌<◌, ◌==◌, ◌^◌, ◌↔◌, ◌∙◌, ◌∷◌, ◌≡◌, ◌≢◌, ◌≤◌}
pub use Rattle.std.proofs.Math.ListN.{get_or-map}
pub use Rattle.std.proofs.lemmas.Bool.{cases_eq, cases_lt}
pub use Rattle.std.proofs.lemmas.Bool.Decides.{nat_tests}
pub use Rattle.std.proofs.lemmas.Grind.{common_steps}
pub use Rattle.std.proofs.lemmas.Iterator.Consumers.{YieldsList-at, YieldsList-from_filter, map_from_collect}
pub use Rattle.std.proofs.lemmas.Iterator.Splits.{YieldsList-from_slice_split, YieldsList-from_str_split}
pub use Rattle.std.proofs.lemmas.List.{append-nil, drop-drop, drop-map, drop_all, drop_min, take_min, get_or-take, get_or_past, length-append, length-drop, length-map, length-take, length-take-le, map-append, nil_from_length, replicate_more, take-append-drop, take-map, take_all, take_more}
pub use Rattle.std.proofs.lemmas.List.Elements.{All-cons, All-drop, All-filter, All-map, All-nil, All-push, All-same, All-take, All-weaker, filter_passes}
pub use Rattle.std.proofs.lemmas.List.Folds.{flat_map-map}
pub use Rattle.std.proofs.lemmas.List.FromFn.{fill_by_all, get_or-map-range_with_len, length-map-range_with_len}
pub use Rattle.std.proofs.lemmas.Option.{IfSome_then, get_or_from_slice_get, gets, slice_get-get_or, slice_get-map, slice_get_cases, slice_get_read, slice_get_within}
pub use Rattle.std.proofs.lemmas.Result.{IfErr-weaker, IfOk-weaker, err_from_is_err_and}
pub use Rattle.std.proofs.lemmas.Simd.{map-map}
pub use Rattle.std.specs.Int.{bit_at, from_bool}
pub use Rattle.std.specs.List.{list_all, position_or_len, range_with_len, slice_split}
pub use Rattle.gc_audit.specs.Garbled.{AreCountsRight, IsGarbledAudit, IsPartsAudit, honest_audit}
pub use Rattle.gc_bank.specs.Jobs.{AreOnOneCircuit}
pub use Rattle.gc_circuit.proofs.CheckLemmas.{marked_more, marks_len, start_table}
pub use Rattle.gc_circuit.proofs.LineLemmas.{line-widths, numbers_after}
pub use Rattle.gc_circuit.proofs.ValueLemmas.{shown_is_read, value_text_law}
pub use Rattle.gc_circuit.specs.Meaning.{AreOutputs, Fits}
pub use Rattle.gc_circuit.specs.Value.{Hexadecimal, binary_digit, byte_at, value_of_text, wire_bit}
pub use Rattle.gc_command.specs.Audit.{AreLabelsFound, IsAuditFault, IsLabelsFound, dealt, is_dealt, more, no_value, none, verdict_line, wrong_label, wrong_width}
pub use Rattle.gc_command.specs.CircuitFile.{HasReadingFault, IsCircuit}
pub use Rattle.gc_command.specs.Eval.{AreEvalFiles, AreFilesGiven, AreLabelFiles, HasEvalFault, HasFilesFault, HasGarbledFault, HasLabelFault, HasLabelFilesFault, IsEvalFault}
pub use Rattle.gc_command.specs.Fault.{HasCause}
pub use Rattle.gc_command.specs.Garble.{HasGarbleFault, IsGarbleInput}
pub use Rattle.gc_command.specs.Input.{HasInput, IsInput}
pub use Rattle.gc_command.specs.Job.{DecodeTo, HasJobFault}
pub use Rattle.gc_command.specs.JobList.{IsJobList, has_words, listed}
pub use Rattle.gc_command.specs.Jobs.{FirstBadJob, HasJobsFault, HasLinesFault, HasListFault, HasNamedFault, NameJob, NameJobs, jobs_lines}
pub use Rattle.gc_command.specs.Labels.{HasLabelsFault, IsLinesMemoryFault, WiresLeft, set_from}
pub use Rattle.gc_command.specs.LineFiles.{AreNamed, AreReadInTurn, FirstMakeNoJob, HasBindingFault, HasBytesFault, HasMakingFault, MakeJob, MakeJobs, MakeNoJob, are_whole, garbled_bytes, trailer_due}
pub use Rattle.gc_command.specs.Lines.{output_lines, value_text}
pub use Rattle.gc_command.specs.OwnFiles.{AreGarbledBytes, AreLabelFilesOf}
pub use Rattle.gc_command.specs.Values.{FirstBadValue, IsInputValue, SpellValues}
pub use Rattle.gc_command.specs.declared.fault.Fault.{Fault}
pub use Rattle.gc_command.specs.declared.line_files.LineFiles.{LineFiles}
pub use Rattle.gc_disk.specs.Files.{CountsWrite, FailedFiles, FileBytes, GivesFile, HasFailed}
pub use Rattle.gc_file.proofs.OneFile.{file_not_fault, one_file}
pub use Rattle.gc_file.proofs.WriterNames.{Appends, Appends-trans, take-add, take_rest}
pub use Rattle.gc_file.specs.DecodeBits.{bit_in, bits_number, bytes_for, packed}
pub use Rattle.gc_file.specs.GarbledFile.{GarbledParts, IsGarbledFile, garbled_file}
pub use Rattle.gc_file.specs.Honest.{honest_parts, honest_parts_with}
pub use Rattle.gc_file.specs.LabelFile.{IsLabelFile, LabelFileParts, label_file, label_parts_of}
pub use Rattle.gc_half.proofs.CanonicalLemmas.{IsGarbled-same, garbling_of-IsGarbled}
pub use Rattle.gc_half.proofs.ComparingLemmas.{garbled-HasLabels, garbled-IsComparison}
pub use Rattle.gc_half.specs.Canonical.{garbling_of}
pub use Rattle.gc_half.specs.Garbling.{FitsCircuit, GarblingParts, IsGarbled}
pub use Rattle.gc_job.specs.Honest.{AreHonestFiles, HonestFilesLaw, IsHonestGarbled}
pub use Rattle.gc_job.specs.Job.{JobParts}
pub use Rattle.gc_label.specs.Seed.{IsSeedText, offset_of}
pub use Rattle.gc_netlist.proofs.Tables.{length-table}
pub use Rattle.gc_netlist.specs.Canon.{canonical_text, line}
pub use Rattle.gc_netlist.specs.Circuit.{IsLawful, Netlist, input_wires, is_and, output_wires}
pub use Rattle.gc_netlist.specs.Reading.{is_set}
pub use Rattle.gc_netlist.specs.Spelling.{Name, Spells, bit_number, words_of_widths}
unfoldable pub use Rattle.gc_netlist.specs.Text.{tokens}
pub use Rattle.gc_netlist.specs.Text.{is_blank, is_some_run}
pub use Rattle.gc_tokens.proofs.TokenLemmas.{blank_passed, tokens-nil, tokens_begin}
pub use Rattle.gc_work.specs.WorkFault.{JudgesWorkers}
pub use Rattle.gc_workers.specs.Workers.{AreFew}
pub use Rattle.hex.specs.Hex.{IsBytes, encode_lower, is_hex_digit, lower_digits}
pub use Rattle.sha2.specs.Sha256.{sha256}
pub use mathlib.Core.Path.{fun_ext}
