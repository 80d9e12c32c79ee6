use Rattle.gc_file.proofs.ReaderNames.{arith, bad_magic, too_many_rows, too_many_outputs}
use Rattle.gc_file.proofs.PlaceLemmas.{begins}
use Rattle.gc_file.proofs.header.check_header.Goals as goal

pub returns-in_default : goal.returns-in_default
returns-in_default c = bad_magic c.in_default.ensures

pub returns-then-not-count_fits : goal.returns-then-not-count_fits
returns-then-not-count_fits c =
    let many = c.if-not-count_fits.ensures in
    too_many_rows _ (begins _ _ (omega (arith, many.0)) c.in-Some.ensures) many.0 many.1

pub returns-then-not-count_fits-2 : goal.returns-then-not-count_fits-2
returns-then-not-count_fits-2 c =
    let many = c.if-not-count_fits-2.ensures in
    too_many_outputs _ (begins _ _ (omega (arith, many.0)) c.in-Some.ensures) many.0 many.1
