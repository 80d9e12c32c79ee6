use Rattle.gc_file.proofs.WriterNames.{◌≡◌, [], flat_map, append_assoc, refl, sym, packed, header, row_bytes, parts_of, length-decode_bits, Proceeds-step, Proceeds-exit}
use Rattle.gc_file.proofs.writer.FileWriter.write_front.Given.{Over}
use Rattle.gc_file.proofs.writer.FileWriter.write_front.Goals.{After-as_slice}
use Rattle.gc_file.proofs.writer.FileWriter.write_front.Goals as goal

-- What is written first is the header.
is : (g : Over) (c : After-as_slice g) →
    let a = c.args.of.now in
    c.as_slice.result.now ≡ header (parts_of a.version a.circuit.now a.garbling.now [])
is g c = rw (
  c.as_slice.ensures.value,
  c.header-header.ensures,
  c.requires.digest,
  c.and_count-and_gates.ensures,
  ← c.requires.fits.and_gates,
  c.outputs.ensures.count,
  length-decode_bits c.args.of.now.garbling.now c.outputs.ensures.bound,
) refl

pub returns-in_err-write-clause-bytes : goal.returns-in_err-write-clause-bytes
returns-in_err-write-clause-bytes g c =
    let here = is g (goal.at.returns-in_err-write-clause-bytes g c).After-as_slice in
    let parts = parts_of c.args.of.now.version c.args.of.now.circuit.now
    c.args.of.now.garbling.now [] in
    Proceeds-exit c.from_residual.result _ c.from_residual.ensures.1
    (sym (append_assoc (header parts) (flat_map row_bytes parts.rows) (packed parts.decode_bits)))
    (rw here at c.in_err-write.ensures.bytes)

pub returns-in_err-write_rows-clause-bytes : goal.returns-in_err-write_rows-clause-bytes
returns-in_err-write_rows-clause-bytes g c =
    let exit = c.from_residual-in_err-write_rows in
    let here = is g (goal.at.returns-in_err-write_rows-clause-bytes g c).After-as_slice in
    Proceeds-exit exit.result _ exit.ensures.1 refl
    (Proceeds-step refl (rw here at c.in_ok-write.ensures.bytes)
    (rw c.rows.ensures at c.in_err-write_rows.ensures.bytes))

pub returns-clause-bytes : goal.returns-clause-bytes
returns-clause-bytes g c =
    let here = is g (goal.at.returns-clause-bytes g c).After-as_slice in
    Proceeds-step refl (Proceeds-step refl (rw here at c.in_ok-write.ensures.bytes)
    (rw c.rows.ensures at c.in_ok-write_rows.ensures.bytes)) c.write_decode_bits.ensures.bytes
