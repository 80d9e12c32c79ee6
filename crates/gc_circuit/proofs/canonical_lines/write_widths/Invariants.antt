use Rattle.gc_circuit.proofs.Names.{ℕ, List, ◌++◌, length, decimal, take}
use Rattle.gc_circuit.proofs.LineLemmas.{numbers_after}
use Rattle.gc_circuit.proofs.canonical_lines.write_widths.Given as goal

abbrev pub invariant-loop-width : goal.invariant-loop-width
invariant-loop-width g l =
    (whole text : List ℕ) → g.S.TextSink.holds l.fn.sink whole text
    → g.S.TextSink.holds l.sink whole (text ++ decimal (length l.widths)
    ++ numbers_after (take l.width-index l.widths))
