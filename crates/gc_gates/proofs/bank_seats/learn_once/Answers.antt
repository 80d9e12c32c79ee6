use Rattle.std.proofs.Common.{arith}
use Rattle.gc_gates.proofs.Keeps.{learns_once}
use Rattle.gc_gates.specs.BankLaws.{two_banks_law}
use Rattle.gc_gates.proofs.bank_seats.learn_once.Goals as goal

pub load-requires : goal.load-requires
load-requires g c = let p = c.requires.place in
    (p.table_id, omega arith, learns_once _ _ _ _ _ (two_banks_law _ _) _ _ _ _ p.whole)
