use Rattle.std.proofs.lemmas.List.Elements.{All-push}
use Rattle.gc_bank.proofs.Names.{all_but_last, all_last, IsSeatOf, IsNew, view, IsWorkerOf, BankSeat}
use Rattle.gc_bank.proofs.worker.workers_of.Goals as goal

pub loop-seat-preserved : goal.loop-seat-preserved
loop-seat-preserved g c =
    let banks = c.args.banks.now in
    let Own = λ (s : BankSeat _ _ _). IsSeatOf banks s × IsNew (view s) in
    let was = c.loop-seat.invariant in record {
      seats = all_but_last _ _ _ c.in-Some.ensures.items Own was.seats;
      workers = rw c.in_ok-push.ensures.items
          (All-push (IsWorkerOf banks) _ _ was.workers c.in_ok-worker_of.ensures);
    }

pub worker_of-requires : goal.worker_of-requires
worker_of-requires g c =
    let Own = λ (s : BankSeat _ _ _). IsSeatOf c.args.banks.now s × IsNew (view s) in
    all_last _ _ _ c.in-Some.ensures.items Own c.loop-seat.invariant.seats
