use Rattle.gc_command.proofs.Names.{length}
use Rattle.gc_command.proofs.value_form.+packed_byte.Given as goal

abbrev pub decreases-packed_byte : goal.decreases-packed_byte
decreases-packed_byte l = length l.bits.now
