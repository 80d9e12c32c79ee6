use Rattle.gc_command.proofs.Names.{◌++◌, List, Bool, drop, map, string_bytes, SpellValues, FirstBadValue}
use Rattle.gc_circuit.specs.declared.value.ValueFault.{ValueFault}
use Rattle.gc_command.proofs.values.read_values.Given as goal

-- What the texts that are left spell is part of what all spell.
abbrev pub invariant-loop-i : goal.invariant-loop-i
invariant-loop-i g l = record {
  values : (left : List (List Bool))
      → SpellValues (drop l.i l.widths) (map string_bytes (drop l.i l.texts)) left
      → SpellValues l.widths (map string_bytes l.texts)
      (map (λ value. value.items) l.values.items ++ left);
  faults : (fault : ValueFault) → FirstBadValue (drop l.i l.widths)
      (map string_bytes (drop l.i l.texts)) fault
      → FirstBadValue l.widths (map string_bytes l.texts) fault;
}
