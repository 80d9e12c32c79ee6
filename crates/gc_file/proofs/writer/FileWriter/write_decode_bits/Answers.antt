use Rattle.gc_file.proofs.WriterNames.{◌≡◌, ◌<◌, ◌+◌, ◌++◌, ◌∷◌, [], length, take, refl, arith, take_more, take_all, take-append-drop, decode_bits_of, packed, length-decode_bits, Wrote-more, Wrote-exit}
use Rattle.gc_file.proofs.PackLemmas.{length-packed, packed-at}
use Rattle.gc_file.proofs.writer.FileWriter.write_decode_bits.Given.{Over}
use Rattle.gc_file.proofs.writer.FileWriter.write_decode_bits.Goals.{After-decode_byte}
use Rattle.gc_file.proofs.writer.FileWriter.write_decode_bits.Goals as goal

-- What is written is the next byte.
here : (g : Over) (c : After-decode_byte g) →
    let bytes = packed (decode_bits_of c.args.garbling.now) in
    take c.loop-k.k bytes ++ c.decode_byte.result ∷ [] ≡ take (c.loop-k.k + 1) bytes
here g c =
    let bits = decode_bits_of c.args.garbling.now in
    let count = length-decode_bits c.args.garbling.now c.outputs.ensures.bound in
    let within : c.loop-k.k < length (packed bits) = omega (arith, count, length-packed bits) in
    rw (
      c.decode_byte.ensures,
      take_more (packed bits) c.loop-k.k 0 within,
      packed-at bits c.loop-k.k 0 (omega (arith, count)),
    ) refl

pub returns-in_err-write-clause-bytes : goal.returns-in_err-write-clause-bytes
returns-in_err-write-clause-bytes g c =
    Wrote-exit c.from_residual.result _ c.from_residual.ensures.1
    (here g (goal.at.returns-in_err-write-clause-bytes g c).After-decode_byte)
    (take-append-drop _ (packed (decode_bits_of c.args.garbling.now))) c.loop-k.invariant
    c.in_err-write.ensures.bytes

pub loop-k-preserved : goal.loop-k-preserved
loop-k-preserved g c =
    Wrote-more (here g (goal.at.loop-k-preserved g c).After-decode_byte) c.loop-k.invariant
    c.in_ok-write.ensures

pub returns-clause-bytes : goal.returns-clause-bytes
returns-clause-bytes g c =
    let bits = decode_bits_of c.args.garbling.now in
    let count = length-decode_bits c.args.garbling.now c.outputs.ensures.bound in
    rw (take_all c.loop-k.k (packed bits) (omega (arith, count, length-packed bits)))
    at c.loop-k.invariant.bytes
