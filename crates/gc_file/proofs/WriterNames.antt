-- The names that the proofs of writers cite, passed on from one place. Declares nothing.
pub use Rattle.gc_file.proofs.ByteLemmas.{bits_number-last, bits_number-later, bool_byte-le, entries-more, entries-one, length-decode_bits, ord_min-nat}
pub use Rattle.gc_file.proofs.DealLemmas.{first_wire-room, label_bytes, label_bytes-append, label_bytes-next, label_bytes-rest, label_file-is, length-label_file}
pub use Rattle.gc_file.proofs.EndLemmas.{Ends-digest, Ends-exit, Ends-sent, Ends-step, IsWritten-whole}
pub use Rattle.gc_file.proofs.ListLemmas.{flat_map-rest, flat_map-step}
unfoldable pub use Rattle.gc_file.proofs.Names.{garbled_file, label_file, packed}
pub use Rattle.gc_file.proofs.Names.{Appends, Appends-trans, Unseen, [], ap, append-nil, append_assoc, arith, bits_number, body, decode_bits_of, drop, drop_all, entry_bytes, entry_count, entry_pairs_from, false, flat_map, get_or, get_or-map-range_with_len, header, honest_parts_with, input_label_of, label_parts_of, length, length-drop, length-take, length-take-le, parts_of, refl, row_bytes, sha256, suc, sym, take, take-add, take-append-drop, take_all, take_more, take_rest, version_entries, ◌*◌, ◌++◌, ◌+◌, ◌-◌, ◌/◌, ◌<◌, ◌^◌, ◌∙◌, ◌∷◌, ◌≡◌, ◌≤◌}
pub use Rattle.gc_file.proofs.SizeLemmas.{body-size, few-version_entries, garbled_file-size, length-honest}
pub use Rattle.gc_file.proofs.WritingLemmas.{IsAfter-stopped, Proceeds-exit, Proceeds-step, Wrote, Wrote-exit, Wrote-more}
