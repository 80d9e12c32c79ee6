use Rattle.gc_kept.proofs.Names.{length_push, ◌≡◌, ◌+◌, ◌-◌, ◌≤◌, length, map, drop, ◌∙◌, arith, length-drop, length-set, length-take-le}
use Rattle.gc_kept.proofs.EachLemmas.{known_set, one_more_outcome}
use Rattle.gc_kept.proofs.JobsLemmas.{job_at, outputs_next, outputs_within}
use Rattle.gc_kept.proofs.each.evaluate_each.Goals.{After-outputs}
use Rattle.gc_kept.proofs.each.evaluate_each.Goals as goal

-- The bytes for the bits of the job are in the buffer.
within : (c : After-outputs) → c.loop-i.place + c.outputs.result ≤ length c.loop-i.bits
within c =
    let job = c.index-jobs-i.result in
    let at = job_at c.args.jobs.now (λ j. j.now) c.loop-i.i job (omega arith) c.index-jobs-i.is in
    let room = c.in_ok-has_output_room.ensures.ok in
    omega (arith, outputs_within (map (λ j. j.now) c.args.jobs.now) c.loop-i.i job.now at)

pub overflow_add-end : goal.overflow_add-end
overflow_add-end c = omega (arith, within (goal.at.overflow_add-end c).After-outputs)

pub slice_bounds-outcome-end : goal.slice_bounds-outcome-end
slice_bounds-outcome-end c =
    omega (arith, within (goal.at.slice_bounds-outcome-end c).After-outputs)

pub loop-i-preserved : goal.loop-i-preserved
loop-i-preserved c =
    let l = c.loop-i in
    let jobs = map (λ j. j.now) c.args.jobs.now in
    let job = c.index-jobs-i.result in
    let n = c.outputs.result in
    let at = job_at c.args.jobs.now (λ j. j.now) l.i job (omega arith) c.index-jobs-i.is in
    let room = within (goal.at.loop-i-preserved c).After-outputs in
    let size : l.place + n - l.place ≡ n = omega arith in
    let long = (rw size at c.outcome-outcome.auto.bits)
    ∙ length-take-le n (drop l.place l.bits) (omega (arith, length-drop l.place l.bits)) in
    let next = one_more_outcome jobs c.args.bits.now l.bits c.outcome-outcome.new.bits l.i l.place n
    job.now _ l.outcomes.items at l.invariant.grown l.invariant.place c.outputs.ensures.outputs room
    long l.invariant.rest (rw size at c.outcome-outcome.ensures) l.invariant.each in
    let items = c.push_reserved.ensures.items in
    record {
      place = omega (arith, outputs_next jobs l.i job.now at);
      made = omega arith;
      grown = rw (items, length_push) (omega arith);
      room = c.push_reserved.ensures.capacity ∙ l.invariant.room;
      count = length-set l.known.items l.i c.take.new.self ∙ l.invariant.count;
      known = known_set jobs l.known.items l.i c.take.new.self (omega arith) l.invariant.known
          (rw c.take.ensures.after tt);
      each = λ k j o j_at o_at. rw size (next.0 k j o j_at (rw items at o_at));
      rest = rw size next.1;
    }
