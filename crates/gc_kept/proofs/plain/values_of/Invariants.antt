use Rattle.std.proofs.Common.{◌≡◌, ◌++◌, map, flat_map, take, length}
use Rattle.gc_kept.proofs.plain.values_of.Given as goal

abbrev pub invariant-loop-width : goal.invariant-loop-width
invariant-loop-width l = record {
  widths : map length (map (λ v. v.items) l.values.items) ≡ take l.width-index l.widths;
  bits : l.bits ≡ flat_map (λ bits. bits) (map (λ v. v.items) l.values.items) ++ l.rest;
}
