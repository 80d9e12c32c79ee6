use Rattle.gc_half.proofs.Names.{◌+◌, ◌++◌, ◌∙◌, ap, sym, slice_index, arith, length-append, length-table, hash, numbered_from}
use Rattle.gc_half.proofs.PieceLemmas.{active_after-same}
use Rattle.gc_half.proofs.streaming_evaluator.StreamingEvaluator.advance.Goals as goal

pub evaluate_piece-active-requires-clause-begun : goal.evaluate_piece-active-requires-clause-begun
evaluate_piece-active-requires-clause-begun g c =
    let is = rw (← c.self.view_is) at c.requires.begun.2 in
    record {
      wires = rw (c.new-begun.ensures.labels, c.replace-labels.ensures.value)
          (length-table _ c.args.circuit.now.wires _ is.labels);
      waiting = λ w unset. rw c.new-begun.ensures.waiting tt;
    }

pub returns-clause-piece : goal.returns-clause-piece
returns-clause-piece g c = λ inputs before began.
    let netlist = c.args.circuit.now in
    let rows = c.args.rows.now in
    let inside = c.self.inside in
    let is = rw (← c.self.view_is) at began in
    let room = rw (← c.self.view_is) at c.requires.room in
    let ends = c.evaluate_piece-active.ensures.ends in
    record {
      fits = is.fits;
      numbers = is.numbers;
      gates = ends.gates;
      used = omega (arith, is.used, length-append before rows);
      reached = omega (arith, ends.number, is.reached, is.used, room, length-append before rows);
      labels = c.into_labels.ensures
          ∙ c.evaluate_piece-active.ensures.evaluated.labels inside.first inputs before
          (sym is.reached)
          (c.new-begun.ensures.numbered ∙ c.plus.ensures
          ∙ ap (λ n. inside.first + n) is.used)
          (c.new-begun.ensures.labels
          ∙ rw c.replace-labels.ensures.value (is.labels
          ∙ active_after-same (numbered_from inside.first hash) netlist (slice_index inputs) before
          rows inside.gates (omega (arith, is.reached))));
    }

pub returns-clause-begun : goal.returns-clause-begun
returns-clause-begun g c =
    let is = rw (← c.self.view_is) at c.requires.begun.2 in
    let room = rw (← c.self.view_is) at c.requires.room in
    let ends = c.evaluate_piece-active.ensures.ends in
    record {
      inputs = c.requires.begun.0;
      rows = c.requires.begun.1 ++ c.args.rows.now;
      so_far = returns-clause-piece g c c.requires.begun.0 c.requires.begun.1 c.requires.begun.2;
      whole = λ all. ends.whole (omega (arith, all, ends.number, is.used, is.reached, room));
    }
