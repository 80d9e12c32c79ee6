-- The names that most proofs of this crate cite, passed on from one place. Declares nothing.
pub use Rattle.std.proofs.Common.{nat_lt, Bool, List, cond, refl, ◌∙◌, ◌≡◌, ℕ, zero, suc, ◌+◌, ◌*◌, ◌<◌, ◌≤◌, ◌==◌, ◌++◌, ◌⊎◌, inl, inr, [], ◌∷◌, length, get_or, take, slice_get, Some, true, false, not, ap, arith, append_assoc, add-one, ◌-◌, max, map, set, replicate, slice_index, sym, ◌≢◌, drop, nat_lt, length-drop, sum}
pub use Rattle.std.proofs.Math.Seq.{take-length, take-append_seam, take-add, drop-cons}
pub use Rattle.std.proofs.lemmas.Bool.{cases_lt, cases_eq}
pub use Rattle.std.proofs.lemmas.Bool.Decides.{nat_tests}
pub use Rattle.std.proofs.lemmas.List.{get_or-replicate, get_or_past, append-nil, take-append-le, take_all, length-append, length-take, get_or-set_same, get_or-set_other, length-replicate, map_more, length-set, take-append-drop, take_more_set, take-set-le, drop-set-lt, drop-set-add, length-map, get_or-map, get_or_read}
pub use Rattle.std.proofs.lemmas.List.Elements.{Contains-append_left, Contains-append_right, filter_more, All-nil, All-push, All-weaker, All-append, filter-append, filter_passes, recursion_from_All}
pub use Rattle.std.proofs.lemmas.List.Sorted.{sum_by-IsPermutation, IsPermutation-refl, IsPermutation-trans, IsPermutation-cons, IsPermutation-sym, IsPermutation-middle, IsPermutation-append_left, length_permutation, Contains-permutation, IsPermutation-map}
pub use Rattle.std.proofs.lemmas.Option.{gets, slice_get_within, slice_get-get_or, get_or_from_slice_get, slice_get_read}
pub use Rattle.std.specs.Int.{from_bool}
pub use Rattle.std.specs.List.{AllByRecursion, Contains, All, range_with_len, filter, IsDistinct}
pub use Rattle.std.specs.List.Sorted.{IsPermutation, IsNonDecreasingBy}
pub use Rattle.gc_circuit.specs.Gates.{with_gates}
pub use Rattle.gc_depth.specs.Depth.{and_depth_of, and_depth_rule, AreAndDepths, and_depths, rank_of, rank_in, IsByDepth}
pub use Rattle.gc_depth.specs.Order.{IsReordering, ComputesSame, IsOrdered}
pub use Rattle.gc_depth.specs.Ranks.{of_rank, by_rank, count_below}
pub use Rattle.gc_netlist.proofs.SolutionLemmas.{EachRead-map, solution_solves, after-keeps}
pub use Rattle.gc_netlist.specs.Circuit.{Netlist, is_and, input_wires, EachRead, IsSetBefore, IsLawful, IsSet}
pub use Rattle.gc_netlist.specs.Solution.{IsLocal, values_after, Solves}
pub use Rattle.gc_netlist.specs.declared.gate.Gate.{Gate}
pub use Rattle.std.proofs.lemmas.Grind.{common_steps}
