use Rattle.gc_file.proofs.ReaderNames.{[], body_new}
use Rattle.gc_file.proofs.body.Body.new.Goals as goal

pub invariant_of-result : goal.invariant_of-result
invariant_of-result g c =
    let holds = rw c.as_slice.ensures.value at (c.update.ensures [] c.new-hasher.ensures) in
    rw (c.new.ensures, c.new-2.ensures.items, c.new-3.ensures, c.new-4.ensures)
    (body_new c.requires.in_order.0 c.args.header.items c.update.new.self c.requires.whole
    c.requires.in_order.1 holds)
