use Rattle.gc_file.proofs.WriterNames.{◌≡◌, ◌<◌, ◌^◌, ◌++◌, [], length, append-nil, refl, ◌∙◌, arith, label_file, label_parts_of, label_bytes, label_file-is, length-label_file, first_wire-room, Proceeds-step, Ends-exit, Ends-step, IsWritten-whole}
use Rattle.gc_file.proofs.deal.write_labels.Given.{Over}
use Rattle.gc_file.proofs.deal.write_labels.Goals.{After-as_slice}
use Rattle.gc_file.proofs.deal.write_labels.Goals as goal

pub overflow_cast-bits : goal.overflow_cast-bits
overflow_cast-bits g c = record {
  fits = omega (arith, first_wire-room c.args.circuit.now c.law_lawful.ensures _ _ c.requires);
}

pub write_labels-requires : goal.write_labels-requires
write_labels-requires g c =
    omega (arith, first_wire-room c.args.circuit.now c.law_lawful.ensures _ _ c.requires)

-- The file is the header and the labels,
whole : (g : Over) (c : After-as_slice g) →
    c.as_slice.result.now ++ label_bytes c.args.seed.now c.first_wire-first.result c.args.bits.now
    ≡ label_file (label_parts_of c.args.circuit.now c.args.seed.now c.args.index c.args.bits.now)
whole g c =
    rw (c.as_slice.ensures.value, c.label_header.ensures)
    (label_file-is c.args.circuit.now c.args.seed.now _ _ _ c.first_wire-first.ensures)

-- and its bytes can be counted.
size : (g : Over) (c : After-as_slice g) → let a = c.args in
    length (label_file (label_parts_of a.circuit.now a.seed.now a.index a.bits.now)) < 2 ^ 64
size g c = omega (
  arith,
  length-label_file c.args.circuit.now c.args.seed.now c.args.index c.args.bits.now,
  first_wire-room c.args.circuit.now c.law_lawful.ensures _ _ c.requires,
)

pub returns-in_err-write-clause-file : goal.returns-in_err-write-clause-file
returns-in_err-write-clause-file g c =
    let header = (goal.at.returns-in_err-write-clause-file g c).After-as_slice in
    let labels = label_bytes c.args.seed.now c.first_wire-first.result c.args.bits.now in
    IsWritten-whole c.from_residual.result (size g header) c.new-file.ensures (whole g header)
    (Ends-exit c.from_residual.result (λ _. labels) c.from_residual.ensures.1
    c.in_err-write.ensures.bytes)

pub returns-in_err-write_labels-clause-file : goal.returns-in_err-write_labels-clause-file
returns-in_err-write_labels-clause-file g c =
    let header = (goal.at.returns-in_err-write_labels-clause-file g c).After-as_slice in
    let exit = c.from_residual-in_err-write_labels in
    IsWritten-whole exit.result (size g header) c.new-file.ensures (append-nil _ ∙ whole g header)
    (Ends-exit exit.result (λ _. []) exit.ensures.1
    (Proceeds-step refl c.in_ok-write.ensures.bytes c.in_err-write_labels.ensures.bytes))

pub returns-clause-file : goal.returns-clause-file
returns-clause-file g c =
    let header = (goal.at.returns-clause-file g c).After-as_slice in
    IsWritten-whole c.end.result (size g header) c.new-file.ensures (append-nil _ ∙ whole g header)
    (Ends-step (Proceeds-step refl c.in_ok-write.ensures.bytes c.in_ok-write_labels.ensures.bytes)
    c.end.ensures.bytes)
