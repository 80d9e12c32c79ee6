use Rattle.halfgates_c.proofs.Names.{◌≡◌, Some, rules, to_z-of_z, w32, Garbling}
use Rattle.halfgates_c.proofs.ReportLemmas.{reported}
use Rattle.halfgates_c.proofs.files.halfgates_garbling_deal.Goals as goal

pub returns-in-Some-Garbling-clause-answer : goal.returns-in-Some-Garbling-clause-answer
returns-in-Some-Garbling-clause-answer c =
    let code = c.report.result in
    let is : c.args.garbling.now.held ≡ Some (Garbling c.in-Some-Garbling.held) = search rules in
    rw (to_z-of_z w32 code (search rules), is)
    (reported c.deal.result code c.report.new.written c.report.ensures.done
    c.report.ensures.fault c.report.ensures.some _ _ c.deal.ensures.ok c.deal.ensures.fault)
