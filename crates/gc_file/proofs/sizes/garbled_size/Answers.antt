use Rattle.gc_file.proofs.WriterNames.{arith, entry_count, length-honest}
use Rattle.gc_file.proofs.sizes.garbled_size.Goals as goal

pub returns : goal.returns
returns g c = λ offset garbling fits.
    let size = length-honest c.args.version c.args.circuit.now c.law_lawful.ensures offset garbling
    fits in
    rw (size, ← c.output_wires-outputs.ensures, ← c.entry_count.ensures)
    (omega (arith, c.and_count.ensures, c.div_ceil-decode_bytes.ensures))
