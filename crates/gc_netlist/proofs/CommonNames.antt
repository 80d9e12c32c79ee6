-- The names that most proofs of this crate cite, passed on from one place. Declares nothing.
pub use Rattle.std.proofs.Common.{◌≡◌, ℕ, ◌+◌, ◌-◌, ◌<◌, ◌&&◌, ◌==◌, ◌++◌, ◌⊎◌, inl, inr, List, [], ◌∷◌, length, length-append, map, true, Option, Some, MatchResult, Result, Ok, Err, codes, refl, arith, ◌≤◌, Bool, zero, suc, append-nil, append_assoc, sum, false, None, sym, ◌≢◌, nat_le, ◌^◌, slice_get, ap, ◌∙◌, length-set, set, drop, get_or, add-one, replicate, ◌*◌, ◌/◌, ◌%◌, decimal, rules, take, nat_lt, if◌then◌else◌}
pub use Rattle.std.proofs.lemmas.Bool.{cases_Bool, cases_eq, both_ways, false_from_ne_true, cases_lt, or_cases, or_right, ltb-true}
pub use Rattle.std.proofs.lemmas.Bool.Decides.{nat_tests}
pub use Rattle.std.proofs.lemmas.Grind.{common_steps}
pub use Rattle.std.proofs.lemmas.List.{length-map, map-append, get_or-set_same, get_or-set_other, get_or-replicate, get_or_past}
pub use Rattle.std.proofs.lemmas.List.FromFn.{length-map-range_with_len, get_or-map-range_with_len, fill_by_all, length-range_with_len, get_or-range_with_len}
pub use Rattle.std.proofs.lemmas.List.Sums.{sum_by-cons, AllPass-from_list_all, list_all-from_AllPass}
pub use Rattle.std.proofs.lemmas.Option.{slice_get_within, gets}
pub use Rattle.std.specs.List.{flat_map, list_all, range_with_len, AllByRecursion, fold, filter}
pub use Rattle.gc_netlist.specs.Circuit.{Netlist, input_wires, EachRead, IsSet, IsLawful, netlist_of, output_wires, IsSetBefore, IsSetBy}
pub use Rattle.gc_netlist.specs.FirstFault.{GateDue, IsCount, GateNumberDue, first_count, second_count, wire_number, due_in_gate, NameDue, due_as_name, IsNamed, no_name, bad_counts, unknown, other_counts, bad_constant, without_outputs, wires_read, IsFirstUnset, no_wire_to_read, unset, no_wire_to_set, set_twice, IsBegun, words_so_far, SideDue, input_side, output_side, next_gate, number_of_gates, number_of_wires, FirstFault, output_unset, trailing, no_number, bad_number, too_large, widths_exceed, ReadingLaw, LimitedDue, number_of_values, NumberDue, due_with_limit, due_as_width}
pub use Rattle.gc_netlist.specs.Met.{left_after, WireBack, wire_of_one, wire_of_two, wire_at_fault, IsMet, back_of, IsBack}
unfoldable pub use Rattle.gc_netlist.specs.Met.{two_left, one_left, gate_left, limited_left, widths_left, numbers_left}
pub use Rattle.gc_netlist.specs.Place.{before_unset, Spot, Token, Behind, End, place_of, gate_of_number, IsLowest}
pub use Rattle.gc_netlist.specs.Reading.{◌>>=◌, token_at, number_at, is_set, check_end, numbered}
unfoldable pub use Rattle.gc_netlist.specs.Reading.{operation_of_two, operation_of_one, two_at, one_at, gate_at, check_read, check_set, check_reads, check_gate, limited_at, widths_at, gates_at, check_outputs, circuit_of, numbers_at}
pub use Rattle.gc_netlist.specs.Spelling.{Word, Number, Name, SpellWords, words_of_operation, words_of_gate, words_of_widths, words_of_circuit, Spells, SpellsWord}
pub use Rattle.gc_netlist.specs.Text.{number_of, is_blank, is_some_run, is_digit}
unfoldable pub use Rattle.gc_netlist.specs.Text.{tokens, value_of}
pub use Rattle.gc_netlist.specs.declared.fault.ReadFault.{ReadFault}
pub use Rattle.gc_netlist.specs.declared.fault.ReadFault.TheVariants.{BadShape, UnknownOperation, BadConstant, NoSuchWire, Unset, SetTwice, OutputUnset, Truncated, Memory, BadNumber, WidthsExceedWires}
pub use Rattle.gc_netlist.specs.declared.gate.Gate.{Gate}
pub use Rattle.gc_netlist.specs.declared.gate.Operation.{Operation}
pub use Rattle.gc_netlist.specs.declared.limits.TheConstants.{MAX_GATES, MAX_WIRES, MAX_VALUES}
