use Rattle.gc_file.proofs.ReaderNames.{ap, length, arith, length-view}
use Rattle.gc_file.proofs.pairs.Pairs.len.Goals as goal

pub returns : goal.returns
returns g c = omega (arith, length-view g.P.LabelPair.labels, ap length c.self.view_is)

pub overflow_add-result : goal.overflow_add-result
overflow_add-result g c = omega (arith, length-view g.P.LabelPair.labels, ap length c.self.view_is)

pub overflow_mul-result : goal.overflow_mul-result
overflow_mul-result g c = omega (arith, length-view g.P.LabelPair.labels, ap length c.self.view_is)
