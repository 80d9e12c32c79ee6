-- The names that most proofs of this crate cite, passed on from one place. Declares nothing.
pub use Rattle.std.proofs.Common.{All, Bool, IfSome, IsTrue, List, MatchOption, None, Option, Some, [], ap, arith, count_by, drop, false, flat_map, get_or, inl, inr, length, length-append, ltb, map, max, refl, replicate, rules, set, slice_get, slice_index, slice_index_or, subst, suc, sym, take, take_all, true, zero, ℕ, ◌*◌, ◌++◌, ◌+◌, ◌-◌, ◌<◌, ◌||◌, ◌↔◌, ◌∙◌, ◌∷◌, ◌≡◌, ◌≢◌, ◌≤◌, ◌⊎◌}
pub use Rattle.std.proofs.lemmas.Bool.{cases_Bool, cases_eq, cases_lt}
pub use Rattle.std.proofs.lemmas.List.{append-nil, get_or-replicate, get_or-set_other, get_or-set_same, get_or_past, length-replicate, take_at, take_more, take_more_same}
pub use Rattle.std.proofs.lemmas.List.FromFn.{fill_by_all, get_or-map-range_with_len}
pub use Rattle.std.proofs.lemmas.Option.{get_or_from_slice_get, slice_get-get_or, slice_get_read, slice_get_within}
pub use Rattle.std.specs.List.{range_with_len}
pub use Rattle.gc_audit.specs.Counts.{AreCounts, one_if}
pub use Rattle.gc_audit.specs.Depths.{depths_in, depths_rule, none_deep}
pub use Rattle.gc_audit.specs.Garbled.{AreCountsRight, IsBitsAudit, IsGarbledAuditWith, IsPartsAudit, IsPartsAuditWith, IsRowsAudit, honest_audit}
pub use Rattle.gc_audit.specs.Labels.{HasBits, HasInputLabels, IsDealtWith, IsFirstWrong, IsVerdictFrom, IsVerdictWith, first_wire_of}
pub use Rattle.gc_audit.specs.Stats.{IsGreatest, depth_of, depth_rule, is_eq, is_eqw, is_inv, is_read, is_unread, is_xor}
pub use Rattle.gc_audit.specs.declared.labels.LabelsVerdict.TheVariants.{Bits, NoValue, WrongLabel, WrongWidth}
pub use Rattle.gc_depth.specs.Depth.{and_depth_of, and_depth_rule}
pub use Rattle.gc_file.proofs.ByteLemmas.{entry_pairs-at, length-decode_bits, length-entry_pairs}
pub use Rattle.gc_file.proofs.LabelBytesLemmas.{length-row_bytes}
pub use Rattle.gc_file.proofs.PairLemmas.{length-pairs}
pub use Rattle.gc_file.specs.GarbledFile.{GarbledParts, IsGarbledFile, IsRowPair, entry_count, garbled_file, row_bytes}
pub use Rattle.gc_file.specs.Honest.{honest_parts, honest_parts_with, version_entries}
pub use Rattle.gc_file.specs.LabelFile.{LabelFileParts, encoded_with, label_file, label_parts_of}
pub use Rattle.gc_file.specs.Written.{entry_pair_of, entry_pairs_of}
pub use Rattle.gc_file.specs.declared.parts.Version.{Version}
pub use Rattle.gc_file.specs.declared.parts.Version.TheVariants.{One, Two}
pub use Rattle.gc_half.proofs.AndNumbers.{and_number-and, and_number-end, and_number-le, and_number-other}
pub use Rattle.gc_half.proofs.CanonicalLemmas.{length-row_pairs_of, parts-same}
pub use Rattle.gc_half.specs.Canonical.{garbling_of, row_pairs_of}
pub use Rattle.gc_half.specs.Comparing.{HasLabels, IsComparison, IsFirstMismatch}
pub use Rattle.gc_half.specs.Evaluation.{encode, row_at}
pub use Rattle.gc_half.specs.Garbling.{FitsCircuit, GarblingParts, decode_bits_of}
pub use Rattle.gc_half.specs.declared.garbling.Mismatch.{Mismatch}
pub use Rattle.gc_half.specs.declared.garbling.RowPair.{RowPair}
pub use Rattle.gc_label.specs.Seed.{input_label_of, offset_of}
pub use Rattle.gc_netlist.proofs.SolutionLemmas.{EachRead-map, IsSetBefore-more, solution_solves}
pub use Rattle.gc_netlist.proofs.Tables.{EachRead-below, IsSetBefore-below, after-zero, length-table, read-table, table_step}
pub use Rattle.gc_netlist.specs.Circuit.{IsLawful, IsSet, IsSetBefore, Netlist, and_count, and_number, input_wires, is_and, reads}
pub use Rattle.gc_netlist.specs.Solution.{IsLocal, Solves, values_after}
pub use Rattle.gc_netlist.specs.declared.gate.Gate.{Gate}
