use Rattle.gc_command.proofs.Names.{◌≡◌, ◌++◌, drop, map, jobs_lines}
use Rattle.gc_command.proofs.jobs.jobs_lines.Given as goal

-- The lines so far and those of what is left are the lines of all.
abbrev pub invariant-loop-bits : goal.invariant-loop-bits
invariant-loop-bits g l =
    l.lines.items ++ jobs_lines l.form l.widths (map (λ bits. bits.items)
    (drop l.bits-index l.outputs))
    ≡ jobs_lines l.form l.widths (map (λ bits. bits.items) l.outputs)
