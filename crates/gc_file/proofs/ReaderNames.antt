-- The names that the proofs of readers cite, passed on from one place. Declares nothing.
pub use Rattle.gc_file.proofs.HeaderLemmas.{header_in_order, lasts_piece}
unfoldable pub use Rattle.gc_file.proofs.Names.{version_of_bytes}
pub use Rattle.gc_file.proofs.Names.{GarbledParts, IfErr-weaker, IsCutUp, IsGiven, IsHashed, IsLabel, IsLabelPair, IsRowPair, IsSpare, IsTaking, Keeps, List, [], ap, append_assoc, arith, bad_label_magic, bad_magic, bit_in, bytes_by, bytes_of_label, bytes_of_label-label_of_bytes, decode_size, div-add-mod', div-eq_of_lt, entry_size, err_from_is_err_and, flat_map, header_truncated, labels_trailing, labels_truncated, lasting, length, map, map-range_with_len_more, mod-lt, nat_tests, on_ok_weaker, one-le-pow, output_count, range_with_len, refl, row_bytes, row_size, rules, shr_and_one, slice_index, take, take-append-drop, take_more_set, take_rest, too_many_labels, too_many_outputs, too_many_rows, truncated, ℕ, ◌%◌, ◌*◌, ◌++◌, ◌+◌, ◌-◌, ◌/◌, ◌<◌, ◌^◌, ◌∙◌, ◌≡◌}
pub use Rattle.gc_file.proofs.PairLemmas.{AreRead, AreRead-more, length-view, whole_pairs}
pub use Rattle.gc_file.proofs.PlaceLemmas.{ends_early, in_order}
pub use Rattle.gc_file.proofs.StepLemmas.{bad_trailer_step, body_new, body_step, given_step, hashed_more, message_step, more_step, spare_step, view_step}
pub use Rattle.gc_file.proofs.TakeLemmas.{fed_length, most_bytes, taken_all, taken_fault, taking_more}
