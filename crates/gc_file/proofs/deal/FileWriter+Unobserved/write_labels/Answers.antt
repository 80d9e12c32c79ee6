use Rattle.gc_file.proofs.WriterNames.{◌+◌, length, arith, take_all, ord_min-nat, label_bytes-next, label_bytes-rest, Wrote-more, Wrote-exit}
use Rattle.gc_file.proofs.deal.FileWriter+Unobserved.write_labels.Goals as goal

pub returns-in_err-write_some_labels-clause-bytes
    : goal.returns-in_err-write_some_labels-clause-bytes
returns-in_err-write_some_labels-clause-bytes g c =
    let seed = c.args.of.now.seed.now in let first = c.args.of.now.first in let bits = c.args.of.now.bits.now in
    let done = c.loop-done.done in let next = c.min-next.result in
    let least = ord_min-nat (done + 64) (length bits) in
    Wrote-exit c.from_residual.result _ c.from_residual.ensures.1
    (label_bytes-next seed first bits done next (omega arith) (omega arith))
    (label_bytes-rest seed first bits next (omega arith)) c.loop-done.invariant.1
    c.in_err-write_some_labels.ensures.bytes

pub loop-done-preserved : goal.loop-done-preserved
loop-done-preserved g c =
    let bits = c.args.of.now.bits.now in let done = c.loop-done.done in let next = c.min-next.result in
    let least = ord_min-nat (done + 64) (length bits) in (
      omega arith,
      Wrote-more
          (label_bytes-next c.args.of.now.seed.now c.args.of.now.first bits done next (omega arith) (omega arith))
          c.loop-done.invariant.1 c.in_ok-write_some_labels.ensures,
    )

pub returns-clause-bytes : goal.returns-clause-bytes
returns-clause-bytes g c =
    rw (take_all c.loop-done.done c.args.of.now.bits.now (omega arith)) at c.loop-done.invariant.1.bytes
