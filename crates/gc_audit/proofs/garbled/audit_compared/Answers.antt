use Rattle.gc_audit.proofs.Names.{◌<◌, Option, None, Some, IfSome, sym, subst, arith, slice_get_within, and_count, Mismatch, row_pairs_of, IsComparison, length-row_pairs_of, IsBitsAudit}
use Rattle.gc_audit.proofs.GarbledLemmas.{compared-audit}
use Rattle.gc_audit.proofs.garbled.audit_compared.Goals as goal

pub row_difference-requires : goal.row_difference-requires
row_difference-requires g c = within c.args.compared.now.first c.requires.first.1
  where
    within : (first : Option Mismatch)
        → (let of = c.args.of.now in
        IsComparison of.circuit.now of.seed.now c.requires.first.0 first)
        → IfSome first (λ (m : Mismatch). m.place < and_count c.args.of.now.circuit.now)
    within None same = tt
    within (Some m) is =
        let of = c.args.of.now in let rows = row_pairs_of of.circuit.now of.seed.now in
        omega (
          arith,
          slice_get_within rows m.place m.made is.made_there,
          length-row_pairs_of of.circuit.now of.seed.now c.law_lawful.ensures,
        )

pub returns : goal.returns
returns g c file counts version bits entries compared =
    let of = c.args.of.now in
    compared-audit of.circuit.now of.seed.now c.law_lawful.ensures of.labels.now c.requires.labels
    file _ counts
    (c.row_difference.ensures file.rows (row_pairs_of of.circuit.now of.seed.now) compared)
    (subst (λ l. IsBitsAudit of.labels.now l c.audit_bits.result) (sym bits) c.audit_bits.ensures)
    (rw (version, entries, ← c.offset.ensures) c.audit_entries.ensures)
