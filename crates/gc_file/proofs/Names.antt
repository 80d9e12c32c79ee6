-- The names that most proofs of this crate cite, passed on from one place. Declares nothing.
pub use Rattle.std.proofs.Common.{All, Bool, Bor, Err, IfSome, List, None, Ok, Option, Result, Some, [], ap, append-nil, append_assoc, arith, bytes_eq, drop, false, flat_map, get_or, if◌then◌else◌, inl, inr, length, length-append, length-drop, length-take, map, min, nat_cmp, nat_eq, refl, rules, slice_get, slice_index, subst, suc, sum, sym, take, true, zero, ℕ, ◌%◌, ◌*◌, ◌++◌, ◌+◌, ◌-◌, ◌/◌, ◌<◌, ◌^◌, ◌∙◌, ◌∷◌, ◌≡◌, ◌≢◌, ◌≤◌, ◌⊎◌}
pub use Rattle.std.proofs.KnownBytes.{Appends-trans, Consumes-trans}
pub use Rattle.std.proofs.Math.Nat.{div-add-mod', div-eq_of_lt, mod-lt, mul-suc, one-le-pow, pow-suc}
pub use Rattle.std.proofs.Math.Seq.{drop-cons, take-add, take-append_seam}
pub use Rattle.std.proofs.lemmas.Bool.{cases_lt}
pub use Rattle.std.proofs.lemmas.Bool.Decides.{nat_tests}
pub use Rattle.std.proofs.lemmas.Grind.{flat_map-append}
pub use Rattle.std.proofs.lemmas.List.{drop-append-le, drop_all, drop_at, get_or-append-add, get_or-drop, get_or-take, get_or_append_left, get_or_past, length-map, length-take-le, take-append-drop, take-append-le, take-take, take_all, take_at, take_more, take_more_set, take_rest}
pub use Rattle.std.proofs.lemmas.List.Elements.{All-cons, All-drop, All-map, All-push, All-take}
pub use Rattle.std.proofs.lemmas.List.FromFn.{fill_by_all, get_or-map-range_with_len, length-map-range_with_len, map-range_with_len_more}
pub use Rattle.std.proofs.lemmas.List.Sums.{count_by-le-length, sum_by_more_le}
pub use Rattle.std.proofs.lemmas.Nat.Bits.{bit_at-lt, bit_at-suc, bit_at-zero, bit_at_above, bit_at_lowest, same_from_bits_below, shr_and_one}
pub use Rattle.std.proofs.lemmas.Option.{get_or_from_slice_get, slice_get-get_or, slice_get_within}
pub use Rattle.std.proofs.lemmas.Result.{IfErr-weaker, err_from_is_err_and, on_ok_weaker}
pub use Rattle.std.specs.Io.KnownBytes.{Appends, Consumes, Keeps}
pub use Rattle.std.specs.List.{range_with_len, zip}
pub use Rattle.std.specs.Result.{IsErrAnd}
unfoldable pub use Rattle.gc_file.specs.Body.{version_of_bytes}
pub use Rattle.gc_file.specs.Body.{IsBody, IsCutUp, IsFilled, IsGiven, IsHashed, decode_size, entry_size, row_size}
pub use Rattle.gc_file.specs.Counted.{saturated_count}
unfoldable pub use Rattle.gc_file.specs.DecodeBits.{packed}
pub use Rattle.gc_file.specs.DecodeBits.{IsSpare, bit_in, bits_number, bytes_for}
pub use Rattle.gc_file.specs.FileFault.{FirstGarbledFault, FirstLabelFault, HasDecodeBits, HasHeader, HasSpareBit, IsHeaderInOrder, IsInOrder, IsTrailerRight, LastingFault, MatchesMagic, bad_label_magic, bad_magic, bad_trailer, decode_end, entries_end, header_truncated, label_count, labels_end, labels_trailing, labels_truncated, lasting, output_count, row_count, spare_bits, too_many_labels, too_many_outputs, too_many_rows, trailer_end, trailing, truncated}
pub use Rattle.gc_file.specs.FileLaw.{AreBytes}
unfoldable pub use Rattle.gc_file.specs.GarbledFile.{garbled_file}
pub use Rattle.gc_file.specs.GarbledFile.{GarbledParts, IsGarbledFile, IsLabel, IsRowPair, body, entry_bytes, entry_count, header, magic, parts_of, row_bytes}
pub use Rattle.gc_file.specs.Honest.{honest_parts_with, version_entries}
pub use Rattle.gc_file.specs.LabelBytes.{IsLabelPair, bytes_by}
unfoldable pub use Rattle.gc_file.specs.LabelFile.{label_file}
pub use Rattle.gc_file.specs.LabelFile.{IsLabelFile, LabelFileParts, encoded_from, encoded_with, label_magic, label_parts_of}
unfoldable pub use Rattle.gc_file.specs.Number.{number_bytes, u32_at}
pub use Rattle.gc_file.specs.Reading.{Fed, IsFed, IsLabelForm, before_trailer}
pub use Rattle.gc_file.specs.Taking.{IsAnswer, IsAnswerOfAll, IsTaken, IsTaking}
pub use Rattle.gc_file.specs.Writing.{Ends, IsAfter, IsStopped, IsUnderWay, Proceeds, Unseen}
pub use Rattle.gc_file.specs.Written.{IsSmall, IsWritten, entry_pair_of, entry_pairs_from, entry_pairs_of}
pub use Rattle.gc_file.specs.declared.fault.FileFault.{FileFault}
pub use Rattle.gc_file.specs.declared.fault.FileFault.TheVariants.{BadMagic, BadTrailer, CountTooLarge, SpareBits, Trailing, Truncated}
pub use Rattle.gc_file.specs.declared.parts.EntryPair.{EntryPair}
pub use Rattle.gc_file.specs.declared.parts.Version.{Version}
pub use Rattle.gc_file.specs.declared.parts.Version.TheVariants.{One, Two}
pub use Rattle.gc_file.specs.declared.writer.FileWriter.{FileWriter}
pub use Rattle.gc_file.specs.declared.writer.WriteFault.{WriteFault}
pub use Rattle.gc_half.specs.Garbling.{FitsCircuit, GarblingParts, decode_bits_of}
pub use Rattle.gc_half.specs.declared.garbling.RowPair.{RowPair}
pub use Rattle.gc_label.proofs.LabelLemmas.{bytes_of_label-label_of_bytes, label_of_bytes-bytes_of_label, label_of_bytes-lt, length-bytes_of_label}
pub use Rattle.gc_label.specs.Label.{bytes_of_label, label_of_bytes}
pub use Rattle.gc_label.specs.Seed.{input_label_of, offset_of}
pub use Rattle.gc_lanes.specs.Hasher.{HoldsMessage}
pub use Rattle.gc_lanes.specs.declared.hasher.LongSha256.{LongSha256}
pub use Rattle.gc_netlist.specs.Canon.{canonical_text}
pub use Rattle.gc_netlist.specs.Circuit.{IsLawful, Netlist, and_count, is_and, output_wires}
pub use Rattle.gc_netlist.specs.declared.limits.TheConstants.{MAX_GATES, MAX_WIRES}
pub use Rattle.sha2.proofs.Facts256.{length-sha256}
pub use Rattle.sha2.specs.Sha256.{sha256}
