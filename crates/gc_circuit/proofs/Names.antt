-- The names that most proofs of this crate cite, passed on from one place. Declares nothing.
pub use Rattle.std.proofs.Common.{◌≡◌, ℕ, suc, ◌+◌, ◌<◌, ◌≤◌, ◌^◌, inl, inr, ◌++◌, List, [], ◌∷◌, Bool, false, Option, Some, None, Ok, Err, length, map, sum, slice_index_or, take, drop, get_or, nat_le, nat_lt, codes, decimal, refl, sym, ap, ◌∙◌, bytes_eq, if◌then◌else◌, arith, ◌-◌, set, slice_get, replicate, zero, append_assoc, take-append-drop, ◌==◌, true, cond, slice_set, rules, Result, append-nil, ◌≢◌, ◌*◌, ◌/◌, ◌%◌, ◌&&◌, ◌↔◌, min, slice_index, add-one, length-append, flat_map}
pub use Rattle.std.proofs.lemmas.Bool.{cases_Bool, cases_lt}
pub use Rattle.std.proofs.lemmas.Bool.Decides.{nat_tests, Decides-eqb}
pub use Rattle.std.proofs.lemmas.Grind.{common_steps, flat_map-append}
pub use Rattle.std.proofs.lemmas.List.{length-map, map-append, drop_more, take_more, get_or-map, get_or_past, drop_all, take_all, take-map, length-take-le, length-set, get_or-set_same, get_or-set_other}
pub use Rattle.std.proofs.lemmas.List.Folds.{flat_map-map, list_any-append, list_all-map, list_all_more, list_any_at}
pub use Rattle.std.proofs.lemmas.Result.{err_from_is_err_and as err_of}
pub use Rattle.std.proofs.lemmas.Slice.Eq.{bytes_eq-Decides, slice_eq-Decides}
pub use Rattle.std.specs.List.{range_with_len, AllByRecursion, join_with_byte, list_all, list_any}
pub use Rattle.gc_circuit.specs.Arrays.{words_of_two, words_of_numbers, tokens_of, lines_of_arrays, text_of, IsFound}
unfoldable pub use Rattle.gc_circuit.specs.Arrays.{arrays_text}
pub use Rattle.gc_circuit.specs.Gates.{AreMarked}
pub use Rattle.gc_circuit.specs.Meaning.{bit_of, bit_rule, bits_of, AreWireBits}
pub use Rattle.gc_circuit.specs.Stop.{GateStops, GatesStop, IsUnset}
pub use Rattle.gc_circuit.specs.Value.{ValueText, Binary, Hexadecimal, has_length, has_spare_bit, is_binary_digit, byte_at, bytes_for, low_bits, wire_bit, form_of, value_of_form, value_of_text, binary_digit, IsValue, IsFirstFault, ValueTextLaw}
pub use Rattle.gc_netlist.proofs.CircuitFaults.{gate_met, wire_met, unset_met, end_met, count_met, wires_met, inputs_met, outputs_due_met, circuit_of-lawful, circuit_of-spelled}
pub use Rattle.gc_netlist.proofs.SolutionLemmas.{after-unset, solution_solves, agree, EachRead-map}
pub use Rattle.gc_netlist.proofs.Tables.{table_step, table_padded, after-zero, read-table, length-table, table_end, EachRead-below}
pub use Rattle.gc_netlist.specs.Canon.{written, line, lines_of_circuit}
unfoldable pub use Rattle.gc_netlist.specs.Canon.{canonical_text}
pub use Rattle.gc_netlist.specs.Circuit.{netlist_of, Netlist, IsLawful, input_wires, is_and, first_wire, second_wire}
pub use Rattle.gc_netlist.specs.Met.{wire_of_one, wire_at_fault, IsMet, left_after, wire_of_two}
unfoldable pub use Rattle.gc_netlist.specs.Met.{numbers_left}
pub use Rattle.gc_netlist.specs.Reading.{number_at, constant_of, is_set, ◌>>=◌, check_end}
unfoldable pub use Rattle.gc_netlist.specs.Reading.{limited_at, widths_at, operation_of_two, operation_of_one, two_at, one_at, gate_at, check_gate, gates_at, check_read, check_set, check_reads, numbers_at, check_outputs, circuit_of}
pub use Rattle.gc_netlist.specs.Solution.{IsLocal, values_after, solution}
pub use Rattle.gc_netlist.specs.Spelling.{Number, words_of_gate, words_of_widths, Word, Name}
pub use Rattle.gc_netlist.specs.declared.fault.ReadFault.{ReadFault}
pub use Rattle.gc_netlist.specs.declared.fault.ReadFault.TheVariants.{TooLarge, BadNumber, UnknownOperation, BadConstant, WidthsExceedWires, Truncated, OutputUnset, Memory}
pub use Rattle.gc_netlist.specs.declared.gate.Gate.{Gate}
pub use Rattle.gc_netlist.specs.declared.gate.Operation.{Operation}
pub use Rattle.gc_netlist.specs.declared.limits.TheConstants.{MAX_GATES, MAX_VALUES, MAX_WIRES}
