use Rattle.gc_cli.proofs.Names.{◌≡◌, ℕ, ◌++◌, List, length}
use Rattle.std.specs.Io.KnownBytes.{Appends}
use Rattle.gc_cli.proofs.order_result.print_labels.Given as goal

abbrev pub invariant-loop-piece : goal.invariant-loop-piece
invariant-loop-piece g l = record {
  printed : (given : List ℕ) × (l.fn.left ≡ given ++ l.left)
      × Appends l.fn.out.contents l.out.contents given;
  counted : l.out.failures ≡ l.fn.out.failures;
}

abbrev pub decreases-loop-piece : goal.decreases-loop-piece
decreases-loop-piece g l = length l.left
