-- The names that most proofs of this crate cite, passed on from one place. Declares nothing.
pub use Rattle.std.proofs.Common.{◌≡◌, ℕ, ◌+◌, ◌-◌, ◌≤◌, List, length, take, drop, refl, sym, ap, ◌∙◌, drop-drop, arith, ◌*◌, ◌<◌, [], ◌∷◌, ◌++◌, get_or, zero, suc, ◌⊎◌, inl, inr, Bool, Option, Vec, IfSome, Result, set, slice_get, Some, length-set, true, false, not, flat_map, append-nil, map, length-append, length-drop, append_assoc, take-add, ◌%◌, ◌≢◌, rules, nat_eq, nat_lt, Bor, ◌↔◌, IsTrue, length-take}
pub use Rattle.std.proofs.Math.Seq.{drop-append-add, take-append_seam}
pub use Rattle.std.proofs.lemmas.Bool.{cases_eq, and_parts, and_cases}
pub use Rattle.std.proofs.lemmas.List.{drop-take, take-take, take_more, get_or-set_other, get_or-set_same, get_or_default, get_or-take, get_or-drop, take_at, map_more, length-map, drop_all, take_more_set, take_rest, length-take-le, take_all, map-append, nil_from_length, take-map, get_or-map, get_or_read, length_push, take-append-le, take-append-drop}
pub use Rattle.std.proofs.lemmas.List.Concat.{flat_map-append}
pub use Rattle.std.proofs.lemmas.List.Elements.{All-append, All-push, All-map}
pub use Rattle.std.proofs.lemmas.List.Folds.{flat_map-map, length-flat_map-take}
pub use Rattle.std.proofs.lemmas.List.FromFn.{take-map-range_with_len, fill_by_all, get_or-map-range_with_len, length-map-range_with_len}
pub use Rattle.std.proofs.lemmas.List.Sums.{sum_by_more_le, sum-map, sum_by_more}
pub use Rattle.std.proofs.lemmas.Option.{slice_get_within, slice_get-get_or, get_or_from_slice_get, slice_get_read, slice_get-map}
pub use Rattle.std.proofs.lemmas.Result.{on_ok_weaker, IfErr-weaker}
pub use Rattle.std.proofs.lemmas.Slice.Zip.{all_zipped_more, length-zip}
pub use Rattle.std.specs.List.{slice_index, sum, AllZip, All, range_with_len}
pub use Rattle.gc_file.proofs.DealLemmas.{encoded_with-append, length-encoded_with, first_wire-room}
pub use Rattle.gc_file.proofs.ItemLemmas.{items_from, items_spelled, label_spelling, row_of, row_spelling}
pub use Rattle.gc_file.proofs.NumberLemmas.{length-number_bytes}
pub use Rattle.gc_file.proofs.SizeLemmas.{length-flat_map}
pub use Rattle.gc_file.specs.GarbledFile.{row_bytes, IsRowPair}
pub use Rattle.gc_file.specs.LabelFile.{encoded_with, label_magic, LabelFileParts, IsLabelFile, label_parts_with}
pub use Rattle.gc_file.specs.Number.{number_bytes}
pub use Rattle.gc_half.specs.Evaluation.{encode, decode}
pub use Rattle.gc_half.specs.Garbling.{GarblingParts, decode_bits_of, IsGarbledFrom}
pub use Rattle.gc_half.specs.Streaming.{StreamingGarblerParts, IsGarbledSoFar, GarblesPiece, EvaluatesPiece}
pub use Rattle.gc_half.specs.declared.garbling.RowPair.{RowPair}
pub use Rattle.gc_job.proofs.OutputLemmas.{length-output_labels, length-evaluated}
pub use Rattle.gc_job.specs.Job.{JobParts}
pub use Rattle.gc_job.specs.Jobs.{AreBitsOf, AreKnown, AreBeside, AreEvaluated}
pub use Rattle.gc_kept.specs.Each.{IsOutcome, part_for}
pub use Rattle.gc_kept.specs.Evaluator.{EvaluatorWith, UsesRows}
pub use Rattle.gc_kept.specs.Files.{IsFileAt, file_of, of_file, no_value, of_bits}
pub use Rattle.gc_kept.specs.Garbler.{GarblerWith, MakesPiece}
pub use Rattle.gc_kept.specs.Garbling.{GarblingWith, IsGarblingUnder}
pub use Rattle.gc_kept.specs.Garblings.{body_of, files_of, with_trailer}
pub use Rattle.gc_kept.specs.Jobs.{outputs_of, AreAllEvaluated}
pub use Rattle.gc_kept.specs.LabelFiles.{file_length, IsOwnFile, HasFaultyFile}
pub use Rattle.gc_kept.specs.Labels.{first_output_of, AreLabels, AreRows}
pub use Rattle.gc_kept.specs.Opening.{HasWrongLabel}
pub use Rattle.gc_kept.specs.declared.fault.KeptFault.{KeptFault}
pub use Rattle.gc_kept.specs.declared.fault.KeptFault.TheVariants.{Memory}
pub use Rattle.gc_label.proofs.LabelLemmas.{length-bytes_of_label, label_of_bytes-bytes_of_label}
pub use Rattle.gc_label.specs.Label.{colour, bytes_of_label, label_of_bytes, ◌⊕◌}
pub use Rattle.gc_label.specs.Seed.{input_label_of, offset_of}
pub use Rattle.gc_netlist.specs.Circuit.{Netlist, IsLawful, input_wires, output_wires, and_count}
pub use Rattle.gc_netlist.specs.Spelling.{bit_number}
pub use Rattle.sha2.specs.Sha256.{sha256}
pub use borrow.Rule.Slice.PartMut.{put_mid}
