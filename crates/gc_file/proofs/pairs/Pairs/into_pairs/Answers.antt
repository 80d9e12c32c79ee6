use Rattle.gc_file.proofs.ReaderNames.{whole_pairs}
use Rattle.gc_file.proofs.pairs.Pairs.into_pairs.Goals as goal

pub returns-clause-bytes : goal.returns-clause-bytes
returns-clause-bytes g c =
    whole_pairs g.P.LabelPair.labels _ _ _ c.self.view_is c.self.invariant.0 c.requires
