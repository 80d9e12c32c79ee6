use Rattle.gc_file.proofs.ReaderNames.{arith, truncated, header_in_order}
use Rattle.gc_file.proofs.reader.GarbledReader.end.Goals as goal

pub returns-in-Header : goal.returns-in-Header
returns-in-Header g c =
    let (short, (v, in_order)) = rw c.in-Header.is at c.self.invariant in
    rw (← c.self.view_is, c.in-Header.is)
    (λ other. truncated v (header_in_order v _ short in_order) (omega arith))
