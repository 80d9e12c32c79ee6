-- The names that most proofs of this crate cite, passed on from one place. Declares nothing.
pub use Rattle.std.proofs.Common.{◌≡◌, ℕ, ◌<◌, ◌%◌, ◌^◌, List, length, map, ap, ◌∙◌, arith, bit_and, bit_xor, ◌/◌, [], ◌∷◌, get_or, below_more, below_none, ◌-◌, ◌*◌, bit_or, mod-lt, pow_pos, zero, suc, ◌+◌, drop, slice_index, take, refl, sym, add-one, add-zero, ◌++◌, replicate, ◌≤◌, length-append, length-drop, rules, slice_set}
pub use Rattle.std.proofs.lemmas.Grind.{common_steps}
pub use Rattle.std.proofs.lemmas.List.{get_or-map, drop-drop, drop-take, get_or-drop, get_or-take, take-take, append_assoc, drop-append-le, drop_all, length-take-le, take-append-drop, take_at, take_rest, map-set, append-nil}
pub use Rattle.std.proofs.lemmas.Nat.{xor_lt, and_le_l, and_le_r, or_lt, shr_le, xor_mod, and_mod}
pub use Rattle.std.proofs.lemmas.Simd.{Each1-get_or, get_or-zip2, zip2_splat, zip2-map}
pub use Rattle.std.specs.Int.{w32, bit_not, w64, w128, from_be_bytes, to_be_bytes, to_le_bytes}
pub use Rattle.gc_lanes.specs.Chain.{block_at, scheduled, AreSchedules}
pub use Rattle.gc_lanes.specs.Lanes.{lane, low_words, label_of_low_words, last_words, words_of_lane, column}
pub use Rattle.sha2.proofs.Absorbing256.{hash_after-append, digest_more, padding-take, total_append}
pub use Rattle.sha2.proofs.Schedule256.{slice_index-schedule_first, IsWindow_first, slice_index-first_words, rounds_first, rounds_window, IsRoundsAt_at, slice_index-schedule_next}
pub use Rattle.sha2.specs.Sha256.{round, round_constants, word_at, IsWindow, initial_hash_256, schedule, add_state, add32, padded_message}
unfoldable pub use Rattle.sha2.specs.Sha256.{compress, hash_after, rounds, digest_bytes, first_words, sha256}
