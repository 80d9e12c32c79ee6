use Rattle.gc_audit.proofs.Names.{◌≡◌, ◌↔◌, IsTrue, rules}
use Rattle.sha2.specs.Sha256.{sha256}
use Rattle.gc_netlist.specs.Canon.{canonical_text}
use Rattle.gc_audit.proofs.GarbledLemmas.{finds_none-honest}
use Rattle.gc_audit.proofs.garbled.audit_garbled.Goals as goal

pub returns-clause-honest : goal.returns-clause-honest
returns-clause-honest g c =
    let of = c.args.of.now in let file = c.args.file.now in
    let right : IsTrue c.eq.result ↔ (file.digest ≡ sha256 (canonical_text of.circuit.now)) =
    search rules in
    finds_none-honest of.circuit.now of.garbling.now of.offset file c.law_lawful.ensures
    c.requires.fits _
    (record { digest = right; parts = c.audit_parts.ensures })
