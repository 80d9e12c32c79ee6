use Rattle.gc_audit.proofs.Names.{◌≡◌, ◌<◌, ℕ, false, length, map, take, slice_index_or, range_with_len, values_after, AreCounts, none_deep, depths_rule, is_read}
use Rattle.gc_audit.proofs.DepthLemmas.{IsDeepest}
use Rattle.gc_audit.proofs.survey.Survey.of.Given as goal

abbrev pub invariant-loop-i : goal.invariant-loop-i
invariant-loop-i g l = record {
  counts : AreCounts (take l.i l.circuit.gates) l.counts;
  table : l.depths.items ≡ map (values_after depths_rule l.circuit (λ w. none_deep) l.i)
      (range_with_len 0 l.circuit.wires);
  depth : IsDeepest l.circuit l.i l.depths.items (λ d. d.depth) l.deepest.depth;
  and_depth : IsDeepest l.circuit l.i l.depths.items (λ d. d.and_depth) l.deepest.and_depth;
  long : length l.read.items ≡ l.circuit.wires;
  read : (w : ℕ) → w < l.circuit.wires → slice_index_or l.read.items w false
      ≡ is_read (take l.i l.circuit.gates) w;
}
