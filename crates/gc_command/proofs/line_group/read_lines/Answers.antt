use Rattle.gc_command.proofs.Names.{[], ◌∷◌, ◌∙◌, sym, arith, append_assoc, get_or-map, fun_ext, append-nil, drop_all, length-map, tokens}
use Rattle.gc_command.proofs.JobsLemmas.{line-next}
use Rattle.gc_command.proofs.LineLemmas.{read-last, read-next}
use Rattle.gc_command.proofs.line_group.read_lines.Goals as goal

pub read_line-line_files-requires : goal.read_line-line_files-requires
read_line-line_files-requires g c =
    rw (← get_or-map (λ line. tokens line.now) c.args.lines.now c.loop-line.line-index
    record { ref_ptr = (0, 0); now = [] })
    (c.requires c.loop-line.line-index (tokens [])
    (omega (arith, c.loop-line-test.true, length-map c.args.lines.now (λ line. tokens line.now))))

pub returns-in_err-push-clause-same : goal.returns-in_err-push-clause-same
returns-in_err-push-clause-same g c = λ n.
    c.read_line-line_files.ensures.same n ∙ c.loop-line.invariant.same n

pub returns-then-not-are_whole-clause-read : goal.returns-then-not-are_whole-clause-read
returns-then-not-are_whole-clause-read g c =
    let next = line-next (λ line. tokens line.now) c.args.lines.now c.loop-line.line-index
    record { ref_ptr = (0, 0); now = [] } c.loop-line-test.true in
    let named = rw (fun_ext c.loop-line.invariant.same, c.loop-line.invariant.counted)
    at c.read_line-line_files.ensures.named in
    rw c.in_ok-push.ensures.items
    (c.loop-line.invariant.read _ (c.read_line-line_files.result ∷ [])
    (rw next (read-last _ _ _ _ _ _
    (sym c.are_whole-are_whole.ensures ∙ c.if-not-are_whole.true) named)))

pub returns-then-not-are_whole-clause-same : goal.returns-then-not-are_whole-clause-same
returns-then-not-are_whole-clause-same g c = λ n.
    c.read_line-line_files.ensures.same n ∙ c.loop-line.invariant.same n

pub loop-line-preserved : goal.loop-line-preserved
loop-line-preserved g c =
    let files = c.read_line-line_files.result in
    let whole = sym c.are_whole-are_whole.ensures ∙ c.if-not-are_whole.false in
    let next = line-next (λ line. tokens line.now) c.args.lines.now c.loop-line.line-index
    record { ref_ptr = (0, 0); now = [] } c.loop-line-test.true in
    let named = rw (fun_ext c.loop-line.invariant.same) at c.read_line-line_files.ensures.named in
    record {
      read = λ failed left rest.
          rw (c.in_ok-push.ensures.items, append_assoc c.loop-line.read.items (files ∷ []) left)
          (c.loop-line.invariant.read failed (files ∷ left)
          (rw next (read-next _ _ failed _ _ _ files left whole named rest)));
      count = omega (arith, c.in_ok-push.ensures.len, c.loop-line.invariant.count);
      same = λ n. c.read_line-line_files.ensures.same n ∙ c.loop-line.invariant.same n;
      counted = c.read_line-line_files.ensures.counted whole ∙ c.loop-line.invariant.counted;
    }

pub returns-clause-read : goal.returns-clause-read
returns-clause-read g c =
    let none = drop_all c.loop-line.line-index c.args.lines.now (omega arith) in
    rw append-nil at (c.loop-line.invariant.read (g.F.Files.failures c.loop-line.files) []
    (rw none c.loop-line.invariant.counted))
