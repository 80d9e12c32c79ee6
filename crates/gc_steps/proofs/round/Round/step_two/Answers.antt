use Rattle.gc_steps.proofs.RunLemmas.{both_ready, first_ready, second_ready, none_ready, alone_later, alone_made}
use Rattle.gc_steps.proofs.round.Round.step_two.Goals as goal

pub returns-in-Ok-Ok-clause-answers : goal.returns-in-Ok-Ok-clause-answers
returns-in-Ok-Ok-clause-answers g c =
    let first = (rw c.in-Ok-Ok.is-0 at c.prepare-one.ensures.ok).0 in
    let second = (rw c.in-Ok-Ok.is-1 at c.prepare-other.ensures.ok).0 in
    both_ready g.R.Frame.layout c.args.self.now.job.now _ _ _ _ _ c.prepare-one.ensures.ran
    c.prepare-other.ensures.ran _ (rw (first, second) at c.make_two.ensures.answers)

pub returns-in-Ok-Err-clause-answers : goal.returns-in-Ok-Err-clause-answers
returns-in-Ok-Err-clause-answers g c =
    let first = (rw c.in-Ok-Err.is-0 at c.prepare-one.ensures.ok).0 in
    first_ready g.R.Frame.layout c.args.self.now.job.now _ _ _ _ _ c.prepare-one.ensures.ran
    c.prepare-other.ensures.ran _ (rw first at c.make.ensures.answer)
    (rw c.in-Ok-Err.is-1 at c.prepare-other.ensures.err)

pub returns-in-Err-Ok-clause-answers : goal.returns-in-Err-Ok-clause-answers
returns-in-Err-Ok-clause-answers g c =
    let second = (rw c.in-Err-Ok.is-1 at c.prepare-other.ensures.ok).0 in
    second_ready g.R.Frame.layout c.args.self.now.job.now _ _ _ _ _ c.prepare-one.ensures.ran
    c.prepare-other.ensures.ran _ (rw c.in-Err-Ok.is-0 at c.prepare-one.ensures.err)
    (rw second at c.make-in-Err-Ok.ensures.answer)

pub returns-in-Err-Err-clause-answers : goal.returns-in-Err-Err-clause-answers
returns-in-Err-Err-clause-answers g c =
    none_ready g.R.Frame.layout c.args.self.now.job.now _ _ _ _ _ c.prepare-one.ensures.ran
    c.prepare-other.ensures.ran (rw c.in-Err-Err.is-0 at c.prepare-one.ensures.err)
    (rw c.in-Err-Err.is-1 at c.prepare-other.ensures.err)

pub returns-in-Ok-Ok-clause-alone : goal.returns-in-Ok-Ok-clause-alone
returns-in-Ok-Ok-clause-alone g c = λ alone.
    let job = c.args.self.now.job.now in
    let p = c.prepare-one.ensures.ran in
    let q = c.prepare-other.ensures.ran in
    let alone_one = alone_later p alone in
    let first_is = (rw c.in-Ok-Ok.is-0 at c.prepare-one.ensures.ok).0 in
    let second_is = (rw c.in-Ok-Ok.is-1 at c.prepare-other.ensures.ok).0 in
    let made = rw (first_is, second_is)
    at (c.make_two.ensures.alone (alone_later q alone_one)) in
    let first = rw c.in-Ok-Ok.is-0 at (c.prepare-one.ensures.alone alone) in
    let second = rw c.in-Ok-Ok.is-1 at (c.prepare-other.ensures.alone alone_one) in (
      alone_made job _ _ c.args.place.now.me.0 _ (made.0 (rw (q.made, p.made) first.0)) first,
      λ apart. rw p.made at (alone_made job _ _ c.prepare-one.new.place.me.0 _
          (made.1 apart (rw q.made second.0)) second),
    )

pub returns-in-Ok-Err-clause-alone : goal.returns-in-Ok-Err-clause-alone
returns-in-Ok-Err-clause-alone g c = λ alone.
    let job = c.args.self.now.job.now in
    let p = c.prepare-one.ensures.ran in
    let q = c.prepare-other.ensures.ran in
    let alone_one = alone_later p alone in
    let first_is = (rw c.in-Ok-Err.is-0 at c.prepare-one.ensures.ok).0 in
    let made = rw first_is at (c.make.ensures.alone (alone_later q alone_one)) in
    let first = rw c.in-Ok-Err.is-0 at (c.prepare-one.ensures.alone alone) in (
      alone_made job _ _ c.args.place.now.me.0 _ (made (rw (q.made, p.made) first.0)) first,
      λ apart. rw (c.in-Ok-Err.is-1, p.made) at (c.prepare-other.ensures.alone alone_one),
    )

pub returns-in-Err-Ok-clause-alone : goal.returns-in-Err-Ok-clause-alone
returns-in-Err-Ok-clause-alone g c = λ alone.
    let job = c.args.self.now.job.now in
    let p = c.prepare-one.ensures.ran in
    let q = c.prepare-other.ensures.ran in
    let alone_one = alone_later p alone in
    let second_is = (rw c.in-Err-Ok.is-1 at c.prepare-other.ensures.ok).0 in
    let made = rw second_is
    at (c.make-in-Err-Ok.ensures.alone (alone_later q alone_one)) in
    let second = rw c.in-Err-Ok.is-1 at (c.prepare-other.ensures.alone alone_one) in (
      rw c.in-Err-Ok.is-0 at (c.prepare-one.ensures.alone alone),
      λ apart. rw p.made at (alone_made job _ _ c.prepare-one.new.place.me.0 _
          (made (rw q.made second.0)) second),
    )

pub returns-in-Err-Err-clause-alone : goal.returns-in-Err-Err-clause-alone
returns-in-Err-Err-clause-alone g c = λ alone.
    let p = c.prepare-one.ensures.ran in (
      rw c.in-Err-Err.is-0 at (c.prepare-one.ensures.alone alone),
      λ apart. rw (c.in-Err-Err.is-1, p.made) at
          (c.prepare-other.ensures.alone (alone_later p alone)),
    )
