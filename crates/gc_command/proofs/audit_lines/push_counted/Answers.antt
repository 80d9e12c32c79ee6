use Rattle.gc_command.proofs.Names.{append_assoc}
use Rattle.gc_command.proofs.audit_lines.push_counted.Goals as goal

pub returns : goal.returns
returns g c =
    rw (
      c.in_ok-push_entries.ensures,
      c.in_ok-push_bits.ensures,
      c.in_ok-push_rows.ensures,
      c.in_ok-extend_from_slice.ensures.items,
    ) (simp append_assoc)
