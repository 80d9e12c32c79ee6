use Rattle.gc_file.proofs.WriterNames.{flat_map, refl, entry_bytes, version_entries, Proceeds-step, Proceeds-exit}
use Rattle.gc_file.proofs.writer.FileWriter.write_body.Goals as goal

pub returns-in_err-write_front-clause-bytes : goal.returns-in_err-write_front-clause-bytes
returns-in_err-write_front-clause-bytes g c =
    let of = c.args.of.now in
    Proceeds-exit c.from_residual.result
    (flat_map entry_bytes (version_entries of.version of.offset of.garbling.now))
    c.from_residual.ensures.1 refl c.in_err-write_front.ensures.bytes

pub returns-clause-bytes : goal.returns-clause-bytes
returns-clause-bytes g c =
    Proceeds-step refl c.in_ok-write_front.ensures.bytes c.write_version_entries.ensures.bytes
