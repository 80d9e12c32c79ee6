use Rattle.gc_cli.proofs.Names.{◌++◌, ◌∙◌, append_assoc, ap, sym}
use Rattle.std.proofs.KnownBytes.{Appends-trans}
use Rattle.gc_cli.proofs.order_result.print_labels.Goals as goal

pub loop-piece-preserved : goal.loop-piece-preserved
loop-piece-preserved g c =
    let before = c.loop-piece.invariant.printed in
    let piece = c.next_lines-piece.result.items in
    let at = rw c.deref.ensures.0 at c.in_ok-print_bytes.ensures.done.0 in
    record {
      printed = (
        before.0 ++ piece,
        before.1 ∙ ap (λ l. before.0 ++ l) c.next_lines-piece.ensures.taken
            ∙ sym (append_assoc before.0 piece c.next_lines-piece.new.self),
        Appends-trans _ _ _ before.0 piece before.2 at,
      );
      counted = c.in_ok-print_bytes.ensures.done.1 ∙ c.loop-piece.invariant.counted;
    }
