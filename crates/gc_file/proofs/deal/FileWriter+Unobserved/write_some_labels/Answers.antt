use Rattle.gc_file.proofs.WriterNames.{◌≡◌, ◌+◌, ◌∷◌, [], ◌++◌, take, get_or, false, append-nil, refl, sym, arith, take_all, take_more, length-take-le, get_or-map-range_with_len, input_label_of, label_bytes, label_bytes-append, label_bytes-rest, Wrote-more, Wrote-exit}
use Rattle.gc_file.proofs.deal.FileWriter+Unobserved.write_some_labels.Given.{Over}
use Rattle.gc_file.proofs.deal.FileWriter+Unobserved.write_some_labels.Goals.{After-to_bytes}
use Rattle.gc_file.proofs.deal.FileWriter+Unobserved.write_some_labels.Goals as goal

-- What is written is the label that encodes the next bit.
here : (g : Over) (c : After-to_bytes g) →
    let bits = c.args.of.now.bits.now in let first = c.args.of.now.first in
    label_bytes c.args.of.now.seed.now first (take c.loop-i.i bits) ++ c.to_bytes.result
    ≡ label_bytes c.args.of.now.seed.now first (take (c.loop-i.i + 1) bits)
here g c =
    let seed = c.args.of.now.seed.now in let first = c.args.of.now.first in let i = c.loop-i.i in
    let bits = c.args.of.now.bits.now in
    rw (
      c.to_bytes.ensures.bytes,
      c.encode-label.ensures,
      c.fill_input_labels.ensures,
      get_or-map-range_with_len (input_label_of seed) first 64 i (first + i)
          c.index-zero_labels-i.result (omega arith) refl,
      c.offset-offset.ensures,
    ) (simp append-nil at (label_bytes-append seed first (take i bits) (get_or bits i false ∷ [])
    (length-take-le i bits (omega arith)) (sym (take_more bits i false c.loop-i-test.true))))

pub returns-in_err-write-clause-bytes : goal.returns-in_err-write-clause-bytes
returns-in_err-write-clause-bytes g c =
    Wrote-exit c.from_residual.result _ c.from_residual.ensures.1
    (here g (goal.at.returns-in_err-write-clause-bytes g c).After-to_bytes)
    (label_bytes-rest c.args.of.now.seed.now c.args.of.now.first c.args.of.now.bits.now (c.loop-i.i + 1) (omega arith))
    c.loop-i.invariant c.in_err-write.ensures.bytes

pub loop-i-preserved : goal.loop-i-preserved
loop-i-preserved g c =
    Wrote-more (here g (goal.at.loop-i-preserved g c).After-to_bytes) c.loop-i.invariant
    c.in_ok-write.ensures

pub returns-clause-bytes : goal.returns-clause-bytes
returns-clause-bytes g c =
    rw (take_all c.loop-i.i c.args.of.now.bits.now (omega arith)) at c.loop-i.invariant.bytes
