use Rattle.gc_eval.proofs.Names.{◌≡◌, ◌+◌, ◌-◌, map, arith, sym, ◌∙◌, range_with_len, map-range_with_len_more, output_wires, active}
use borrow.Author.Count.{below_more}
use Rattle.gc_eval.proofs.active.Active.output_labels.Goals as goal

pub returns-in_default : goal.returns-in_default
returns-in_default g c =
    let outs = rw c.circuit-circuit.ensures.circuit at c.output_wires-count.ensures in
    let wires = rw c.circuit-circuit.ensures.circuit at c.wires.ensures.count in
    let fit = c.circuit-circuit.ensures.whole.lawful.outputs_fit in (
      c.wires.result - c.output_wires-count.result + c.loop-i.i,
      (omega (arith, outs, wires, fit), omega (arith, outs, wires, fit, c.loop-i-test.true)),
      c.in_default.ensures.none,
    )

pub loop-i-preserved : goal.loop-i-preserved
loop-i-preserved g c =
    let i = c.loop-i.i in
    let before = c.loop-i.invariant in
    let label = c.in-Some.ensures.some in (
      rw (c.in_ok-push.ensures.items, before.0, label.0)
          (sym (map-range_with_len_more (active c.args.self.now.job.now) _ i _ (omega arith))),
      below_more _ _ before.1 label.1,
    )

pub returns : goal.returns
returns g c =
    let outs = rw c.circuit-circuit.ensures.circuit at c.output_wires-count.ensures in
    let wires = rw c.circuit-circuit.ensures.circuit at c.wires.ensures.count in
    let fit = c.circuit-circuit.ensures.whole.lawful.outputs_fit in
    let first = c.wires.result - c.output_wires-count.result in
    let job = c.args.self.now.job.now in
    let from : first ≡ job.circuit.wires - output_wires job.circuit = omega (arith, outs, wires) in
    let whole : c.loop-i.i ≡ output_wires job.circuit = omega (arith, outs) in
    let before = c.loop-i.invariant in (
      before.0 ∙ (λ j. map (active job) (range_with_len (from j) (whole j))),
      λ w out.
          let place : first + (w - first) ≡ w = omega (arith, outs, wires, fit, out.0) in
          rw place at (before.1 (w - first) (omega (arith, outs, wires, fit, whole, out.0, out.1))),
    )
