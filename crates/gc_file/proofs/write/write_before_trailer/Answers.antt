use Rattle.gc_file.proofs.WriterNames.{[], append-nil, body-size, Ends-exit, Ends-step, IsWritten-whole}
use Rattle.gc_file.proofs.write.write_before_trailer.Goals as goal

pub returns-in_err-write_body-clause-body : goal.returns-in_err-write_body-clause-body
returns-in_err-write_body-clause-body g c =
    let of = c.args.of.now in
    IsWritten-whole c.from_residual.result
    (body-size of.version of.circuit.now of.offset of.garbling.now
    c.in_err-write_body.ensures.small)
    c.new-file.ensures (append-nil _)
    (Ends-exit c.from_residual.result (λ _. []) c.from_residual.ensures.1
    c.in_err-write_body.ensures.bytes)

pub returns-clause-body : goal.returns-clause-body
returns-clause-body g c =
    let of = c.args.of.now in
    IsWritten-whole c.end.result
    (body-size of.version of.circuit.now of.offset of.garbling.now c.in_ok-write_body.ensures.small)
    c.new-file.ensures (append-nil _)
    (Ends-step c.in_ok-write_body.ensures.bytes c.end.ensures.bytes)
