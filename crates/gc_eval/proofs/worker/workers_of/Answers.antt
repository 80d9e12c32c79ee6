use Rattle.gc_eval.proofs.Names.{length, ap, ◌∙◌, All-push, all_but_last, all_last, Netlist, IsSeatOf, IsNew, view, IsWorkerOf, EvalSeat}
use Rattle.gc_eval.proofs.worker.workers_of.Goals as goal

pub loop-seat-preserved : goal.loop-seat-preserved
loop-seat-preserved g c =
    let board = c.args.board.now in
    let is = c.in-Some.ensures.items in
    let Own = λ (s : EvalSeat _ _). IsSeatOf board s × IsNew (view s) in
    let was = c.loop-seat.invariant in record {
      seats = all_but_last _ _ _ is Own was.seats;
      workers = rw c.in_ok-push.ensures.items (All-push (IsWorkerOf board) _ _ was.workers (record {
        seat_of = (all_last _ _ _ is Own was.seats).0;
        gates = c.in_ok-new.ensures.gates ∙ c.gates-gates.ensures.count
            ∙ ap (λ (n : Netlist). length n.gates) c.circuit.ensures;
      }));
    }
