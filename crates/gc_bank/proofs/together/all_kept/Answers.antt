use Rattle.gc_bank.proofs.Names.{all_but_last, all_last, IsWorkerOf}
use Rattle.gc_bank.proofs.together.all_kept.Goals as goal

pub kept_by-slots-requires-clause-worker : goal.kept_by-slots-requires-clause-worker
kept_by-slots-requires-clause-worker g c =
    all_last _ _ _ c.in-Some.ensures.items (IsWorkerOf c.args.banks.now) c.loop-worker.invariant.0

pub loop-worker-preserved : goal.loop-worker-preserved
loop-worker-preserved g c = (
  all_but_last _ _ _ c.in-Some.ensures.items (IsWorkerOf c.args.banks.now)
      c.loop-worker.invariant.0,
  c.kept_by-slots.ensures,
)
