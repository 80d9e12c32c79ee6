use Rattle.gc_command.proofs.Names.{◌↔◌, ℕ, Bool, IsTrue, List, arith, Netlist, IsLawful, offset_of, GarblingParts, IsGarbled, honest_parts, GarbledParts, IsGarbledAudit, honest_audit, FitsCircuit, ◌≡◌, ◌&&◌, refl, ap, sym, ◌∙◌, garbling_of, garbling_of-IsGarbled}
use Rattle.gc_command.proofs.audit_lines.audit_lines.Goals.{then-is_honest, else-is_honest}
use Rattle.gc_audit.specs.declared.garbled.GarbledAudit.{GarbledAudit}
use Rattle.gc_audit.proofs.GarbledLemmas.{finds_none-honest}
use Rattle.gc_command.proofs.audit_lines.audit_lines.Goals as goal

-- a garbling of the circuit fits it
garbled-fits : (c : Netlist) (seed : List ℕ) (g : GarblingParts) → IsGarbled c seed g
    → FitsCircuit c g
garbled-fits c seed g is =
    record { wires = is.wires; and_gates = is.garbling.row_count; outputs = is.outputs }

-- An audit is honest exactly where the garbled file is right and all label files are the dealer's.
honest-where : (c : Netlist) → IsLawful c → (seed : List ℕ) (garbling : GarblingParts)
    → IsGarbled c seed garbling → (file : GarbledParts) (found : GarbledAudit)
    → IsGarbledAudit c garbling seed file found
    → (none_differs all_dealt : Bool) → (IsTrue none_differs ↔ (found ≡ honest_audit))
    → IsTrue (none_differs && all_dealt)
    ↔ (file ≡ honest_parts file.version c garbling seed) × IsTrue all_dealt
honest-where c lawful seed garbling garbled file found is_found none_differs all_dealt none_is =
    let fits = garbled-fits c seed garbling garbled in
    let parts = finds_none-honest c garbling (offset_of seed) file lawful fits found is_found in (
      λ set.
          let p : IsTrue none_differs × IsTrue all_dealt = grind arith in
          (parts.0 (none_is.0 p.0), p.1),
      λ p. let same = none_is.1 (parts.1 p.0) in grind arith,
    )

pub returns : goal.returns
returns g c = λ file of_version is_found.
    let none_differs = c.is_honest.result in
    let all_dealt = c.in_ok-all_dealt.all_dealt in
    let dealt = c.in_ok-all_dealt.ensures in
    let garbled = garbling_of-IsGarbled c.args.circuit.now c.args.compared.now.seed c.law_lawful.ensures in
    let honest_is : c.if-is_honest.is_honest ≡ none_differs && all_dealt =
    elim c.if-is_honest.branch [
      | then-is_honest w ↦ w.is_honest-is ∙ ap (λ b. b && all_dealt) (sym w.if-is_honest.true)
      | else-is_honest w ↦ w.is_honest-is ∙ w.if-is_honest.false
          ∙ ap (λ b. b && all_dealt) (sym w.if-is_honest.false)
    ] in
    record {
      garbling = garbling_of c.args.circuit.now c.args.compared.now.seed;
      garbled = garbled;
      found = c.args.found.now;
      is_found = is_found;
      all_dealt = all_dealt;
      labels_lines = dealt.0;
      labels_found = dealt.1;
      is_honest = rw honest_is (honest-where _ c.law_lawful.ensures _ _ garbled file _ is_found
          none_differs all_dealt c.is_honest.ensures);
      printed = rw (
        c.in_ok-push_end.ensures,
        dealt.2,
        c.in_ok-push_garbled.ensures,
        c.new-lines.ensures.items,
        of_version,
      ) refl;
    }
