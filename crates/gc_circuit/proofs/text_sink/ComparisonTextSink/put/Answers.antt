use Rattle.gc_circuit.proofs.Names.{◌≡◌, ◌++◌, length, take, append_assoc, take-append-drop, refl, sym, Decides-eqb, slice_eq-Decides}
use lib.Pointwise.{pointwise}
use Rattle.std.proofs.Math.Dec.{eqb}
use Rattle.gc_circuit.proofs.text_sink.ComparisonTextSink.put.Goals as goal

pub returns : goal.returns
returns c = λ whole text held.
    let piece = c.args.piece.now in
    let left = c.args.self.now.left.now in
    let n = length piece in
    let found = c.in-Some.ensures.cases in
    let begins : take n left ≡ piece =
    (slice_eq-Decides Decides-eqb (take n left) piece (pointwise eqb (take n left) piece) refl).0
    found.0 in
    let parts : left ≡ piece ++ c.in-Some.left.now =
    rw (begins, ← found.1) at (sym (take-append-drop n left)) in
    rw (append_assoc, ← parts) held
