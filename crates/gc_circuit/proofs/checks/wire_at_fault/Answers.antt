use Rattle.gc_circuit.proofs.Names.{◌≡◌, ℕ, Bool, Some, rules, sym, ◌∙◌, Operation, first_wire, second_wire, wire_of_two, wire_at_fault}
use Rattle.gc_circuit.proofs.checks.wire_at_fault.Goals as goal

-- The wire at fault of a gate that reads two wires
reads_two : (n : ℕ) (is_set : ℕ → Bool) (set a b : ℕ) (op : Operation) → first_wire op ≡ Some a
    → second_wire op ≡ Some b → wire_of_two n is_set a b set ≡ wire_at_fault n is_set set op
reads_two n is_set set a b op first second = search rules

pub returns-in-Some-Some : goal.returns-in-Some-Some
returns-in-Some-Some c =
    c.wire_of_two.ensures ∙ reads_two _ _ _ _ _ c.args.gate.operation
    (sym c.first_wire.ensures ∙ c.in-Some-Some.is-0)
    (sym c.second_wire.ensures ∙ c.in-Some-Some.is-1)
