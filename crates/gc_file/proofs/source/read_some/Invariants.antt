use Rattle.gc_file.proofs.ReaderNames.{Keeps}
use Rattle.gc_file.proofs.source.read_some.Given as goal

abbrev pub invariant-loop : goal.invariant-loop
invariant-loop g l = Keeps (g.R.Read.remaining l.initial.reader) (g.R.Read.remaining l.reader)
