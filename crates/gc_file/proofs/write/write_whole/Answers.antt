use Rattle.gc_file.proofs.WriterNames.{refl, sha256, body, garbled_file, honest_parts_with, garbled_file-size, few-version_entries, Ends-exit, Ends-step, IsWritten-whole}
use Rattle.gc_file.proofs.write.write_whole.Goals as goal

pub returns-in_err-write_body-clause-file : goal.returns-in_err-write_body-clause-file
unfolding garbled_file
returns-in_err-write_body-clause-file g c =
    let of = c.args.of.now in
    let parts = honest_parts_with of.version of.circuit.now of.garbling.now of.offset in
    IsWritten-whole c.from_residual.result
    (garbled_file-size of.version of.circuit.now of.garbling.now _ c.in_err-write_body.ensures.small
    (few-version_entries of.version of.offset of.garbling.now))
    c.new-file.ensures refl (Ends-exit c.from_residual.result (λ _. sha256 (body parts))
    c.from_residual.ensures.1 c.in_err-write_body.ensures.bytes)

pub returns-clause-file : goal.returns-clause-file
unfolding garbled_file
returns-clause-file g c =
    let of = c.args.of.now in
    IsWritten-whole c.end_with_digest.result
    (garbled_file-size of.version of.circuit.now of.garbling.now _ c.in_ok-write_body.ensures.small
    (few-version_entries of.version of.offset of.garbling.now))
    c.new-file.ensures refl
    (Ends-step c.in_ok-write_body.ensures.bytes c.end_with_digest.ensures.bytes)
