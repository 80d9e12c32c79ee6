use Rattle.gc_file.proofs.ReaderNames.{append_assoc, take-append-drop, err_from_is_err_and, lasts_piece}
use Rattle.gc_file.proofs.reader.advance_header.Goals as goal

pub returns-in_err-check_header-clause-err : goal.returns-in_err-check_header-clause-err
returns-in_err-check_header-clause-err g c =
    let p = err_from_is_err_and c.from_residual.result c.from_residual.ensures.1 in
    let fault = rw (c.as_slice.ensures.value, c.append.ensures.items, c.cut.ensures.front) at
    c.in_err-check_header.ensures in
    rw (p.1, p.2) (λ other. lasts_piece c.args.header.items c.args.piece.now _ _ fault)

pub with-requires : goal.with-requires
with-requires g c =
    rw (
      c.new.ensures,
      c.append.ensures.items,
      c.cut.ensures.front,
      c.cut.ensures.rest,
      append_assoc,
      take-append-drop,
    ) c.requires.digest
