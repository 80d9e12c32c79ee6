use Rattle.gc_command.proofs.Names.{◌≡◌, ◌<◌, ◌+◌, ◌++◌, [], length, take, drop, map, ◌∙◌, sym, ap, arith, append_assoc, fun_ext, append-nil, drop_all, length-map, tokens, drop-drop, length-append, All-drop, All-take}
use Rattle.gc_command.proofs.AnswerLemmas.{IfErr-exit}
use Rattle.gc_command.proofs.JobsLemmas.{named_count}
use Rattle.gc_command.proofs.LineLemmas.{bad-later, bad-part, lines-among, names-part, words-part}
use Rattle.gc_command.proofs.binder.Binder.read_jobs.Goals as goal

pub read_group-requires-clause-words : goal.read_group-requires-clause-words
read_group-requires-clause-words g c =
    rw (words-part (λ line. tokens line.now) c.args.lines.now _ _ _ _ c.split_at.ensures.back
    c.split_at-in-loop-jobs.ensures.front)
    (All-take (λ words. 0 < length words) c.lines_ahead.result _
    (All-drop (λ words. 0 < length words) c.len-in-loop-jobs.result _ c.requires.words))

pub returns-in_err-made-clause-fault : goal.returns-in_err-made-clause-fault
returns-in_err-made-clause-fault g c =
    let done : c.len-in-loop-jobs.result ≡ length c.loop-jobs.jobs.items =
    omega (arith, c.len-in-loop-jobs.ensures) in
    let words = rw done at (words-part (λ line. tokens line.now) c.args.lines.now _ _ _ _
    c.split_at.ensures.back c.split_at-in-loop-jobs.ensures.front) in
    IfErr-exit c.from_residual-in_err-made.result _ _ c.from_residual-in_err-made.ensures.1
    (lines-among _ _ _ _ _ (λ fault bad. c.loop-jobs.invariant.faults _ fault
    (bad-part _ _ _ fault c.lines_ahead.result _ bad)) _
    (rw (fun_ext c.loop-jobs.invariant.same, c.loop-jobs.invariant.counted, words)
    at c.in_err-made.ensures.fault))

pub loop-jobs-smaller : goal.loop-jobs-smaller
loop-jobs-smaller g c =
    let jobs = c.loop-jobs.jobs.items in
    let made = c.in_ok-made.made.items in
    let group = c.split_at-in-loop-jobs.result.0.now in
    let count : length made ≡ c.lines_ahead.result =
    named_count _ _ _ made c.in_ok-made.ensures.named ∙ length-map group (λ line. tokens line.now)
    ∙ c.split_at-in-loop-jobs.ensures.front_len in
    let more : length c.append.new.self.items ≡ length jobs + length made =
    ap length c.in_ok-append.ensures.items ∙ length-append jobs made in
    omega (
      arith,
      count,
      more,
      c.lines_ahead.ensures.least,
      c.split_at.ensures.back_len,
      c.len-in-loop-jobs.ensures,
      c.loop-jobs-test.true,
    )

pub loop-jobs-preserved : goal.loop-jobs-preserved
loop-jobs-preserved g c =
    let jobs = c.loop-jobs.jobs.items in
    let made = c.in_ok-made.made.items in
    let done : c.len-in-loop-jobs.result ≡ length jobs =
    omega (arith, c.len-in-loop-jobs.ensures) in
    let rest = drop (length jobs) (map (λ line. tokens line.now) c.args.lines.now) in
    let words : map (λ line. tokens line.now) c.split_at-in-loop-jobs.result.0.now
    ≡ take c.lines_ahead.result rest =
    rw done at (words-part (λ line. tokens line.now) c.args.lines.now _ _ _ _
    c.split_at.ensures.back c.split_at-in-loop-jobs.ensures.front) in
    let group = c.split_at-in-loop-jobs.result.0.now in
    let count : length made ≡ c.lines_ahead.result =
    named_count _ _ _ made c.in_ok-made.ensures.named ∙ length-map group (λ line. tokens line.now)
    ∙ c.split_at-in-loop-jobs.ensures.front_len in
    let more : length c.append.new.self.items ≡ length jobs + c.lines_ahead.result =
    omega (arith, count, ap length c.in_ok-append.ensures.items, length-append jobs made) in
    let later : drop (length c.append.new.self.items)
    (map (λ line. tokens line.now) c.args.lines.now)
    ≡ drop c.lines_ahead.result rest =
    rw more (sym (drop-drop c.lines_ahead.result (length jobs)
    (map (λ line. tokens line.now) c.args.lines.now))) in
    let named = rw (fun_ext c.loop-jobs.invariant.same, words) at c.in_ok-made.ensures.named in
    record {
      most = omega (
        arith,
        more,
        c.lines_ahead.ensures.left,
        c.split_at.ensures.back_len,
        c.len-in-loop-jobs.ensures,
      );
      named = λ left names.
          rw (c.in_ok-append.ensures.items, append_assoc jobs made left)
          (c.loop-jobs.invariant.named (made ++ left)
          (names-part _ _ c.lines_ahead.result rest made left named (rw later at names)));
      faults = λ failed fault bad.
          c.loop-jobs.invariant.faults failed fault
          (bad-later _ _ _ fault c.lines_ahead.result rest made named (rw later at bad));
      same = λ n. c.read_group.ensures.same n ∙ c.loop-jobs.invariant.same n;
      counted = c.in_ok-made.ensures.counted ∙ c.loop-jobs.invariant.counted;
    }

pub returns-clause-named : goal.returns-clause-named
returns-clause-named g c =
    let all = map (λ line. tokens line.now) c.args.lines.now in
    let none = drop_all (length c.loop-jobs.jobs.items) all (omega (
      arith,
      c.loop-jobs-test.false,
      c.len.ensures,
      length-map c.args.lines.now (λ line. tokens line.now),
    )) in
    rw append-nil at (c.loop-jobs.invariant.named [] (rw none tt))
