use Rattle.gc_file.proofs.WriterNames.{◌≡◌, ◌≤◌, drop, take, decode_bits_of, bits_number}
use Rattle.gc_file.proofs.spell.decode_byte.Given as goal

abbrev pub invariant-loop-i : goal.invariant-loop-i
invariant-loop-i g l =
    (l.i ≤ l.count)
    × (l.byte ≡ bits_number (drop l.i (take 8 (drop l.first (decode_bits_of l.garbling)))))
