-- The names that most proofs of this crate cite, passed on from one place. Declares nothing.
pub use Rattle.std.proofs.Common.{◌≡◌, ℕ, zero, suc, ◌+◌, ◌-◌, ◌<◌, ◌≤◌, ◌==◌, ◌++◌, List, [], ◌∷◌, length, length-append, take, drop, fold, get_or, slice_index, Bool, true, false, inl, inr, refl, ap, arith, All, append_assoc, append-nil, take-append-drop, if◌then◌else◌, ◌*◌, ◌/◌, ◌%◌, ◌^◌, map, ltb, bit_and, mod-lt, w64, Some, None, Ok, Err, ◌∙◌, filter, sym, add-one, drop-cons, count_by, replicate, w8, pow_pos, codes}
pub use Rattle.std.proofs.lemmas.Bool.{both_ways, cases_Bool, cases_lt, ltb-true, eq-eqb, ne_eqb}
pub use Rattle.std.proofs.lemmas.Bool.Decides.{nat_tests}
pub use Rattle.std.proofs.lemmas.Grind.{common_steps}
pub use Rattle.std.proofs.lemmas.List.{take_more, get_or-take, length-drop, length-take-le, get_or_past, get_or-map, length-map, take_rest, get_or-drop, drop-drop}
pub use Rattle.std.specs.List.{slice_split, list_all}
pub use Rattle.gc_netlist.specs.Reading.{number_at, check_end, token_at}
unfoldable pub use Rattle.gc_netlist.specs.Reading.{gate_at, two_at, operation_of_two}
pub use Rattle.gc_netlist.specs.Text.{is_blank, is_digit, number_of, is_some_run}
unfoldable pub use Rattle.gc_netlist.specs.Text.{tokens, value_of}
