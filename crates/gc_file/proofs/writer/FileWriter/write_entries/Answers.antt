use Rattle.gc_file.proofs.WriterNames.{◌-◌, ◌*◌, ◌/◌, refl, arith, entries-more, Proceeds-step, Proceeds-exit}
use Rattle.gc_file.proofs.writer.FileWriter.write_entries.Goals as goal

pub returns-in_err-write_fours-clause-bytes : goal.returns-in_err-write_fours-clause-bytes
returns-in_err-write_fours-clause-bytes g c =
    let garbling = c.args.of.now.garbling.now in let n = 4 * (c.outputs-fours.result / 4) in
    Proceeds-exit c.from_residual.result _ c.from_residual.ensures.1
    (entries-more c.args.of.now.offset garbling 0 n (garbling.outputs - n) n garbling.outputs refl
    (omega arith) (omega arith))
    c.in_err-write_fours.ensures.bytes

pub returns-clause-bytes : goal.returns-clause-bytes
returns-clause-bytes g c =
    let garbling = c.args.of.now.garbling.now in let n = 4 * (c.outputs-fours.result / 4) in
    Proceeds-step
    (entries-more c.args.of.now.offset garbling 0 n (garbling.outputs - n) n garbling.outputs refl
    (omega arith) (omega arith))
    c.in_ok-write_fours.ensures.bytes c.write_last_entries.ensures.bytes
