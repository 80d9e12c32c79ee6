use Rattle.gc_cli.proofs.Names.{rules, [], ◌++◌, ◌∙◌, ap, append_assoc, map, refl, string_bytes, sym, append-nil, err_from_is_err_and, fun_ext, no_word}
use Rattle.gc_cli.proofs.ArgumentsLemmas.{front-next}
use Rattle.gc_cli.proofs.arguments.push_arguments.Goals as goal

pub loop-files-init : goal.loop-files-init
loop-files-init g c = record {
  same = λ name. refl;
  unfailed = refl;
  front = ([], (sym (append-nil _), λ more left later. later));
}

pub returns-in_err-left-clause-refusal : goal.returns-in_err-left-clause-refusal
returns-in_err-left-clause-refusal g c =
    let p = err_from_is_err_and c.from_residual.result c.from_residual.ensures.1 in
    let before = c.loop-files.invariant in
    let same = fun_ext before.same in
    rw (p.1, p.2) record {
      given = before.front.0;
      left = map string_bytes c.loop-files.left.now;
      front = rw append-nil at (before.front.1.1 [] _ no_word);
      next = rw (same, before.unfailed) at c.in_err-left.ensures.refusal;
    }

pub loop-files-preserved : goal.loop-files-preserved
loop-files-preserved g c =
    let before = c.loop-files.invariant in
    let given = c.in_ok-left.ensures.given in
    let added = given.1.0 ∙ ap (λ l. l ++ given.0) before.front.1.0
    ∙ append_assoc _ before.front.0 given.0 in
    let first = rw (fun_ext before.same) at given.1.1 in
    record {
      same = λ name. c.push_first.ensures.same name ∙ before.same name;
      unfailed = c.in_ok-left.ensures.unfailed ∙ before.unfailed;
      front = (_, (added, front-next _ _ _ _ before.front.0 given.0 before.front.1.1 first));
    }

pub returns-in_err-push_copies-clause-refusal : goal.returns-in_err-push_copies-clause-refusal
returns-in_err-push_copies-clause-refusal g c =
    let p = err_from_is_err_and c.from_residual-in_err-push_copies.result
    c.from_residual-in_err-push_copies.ensures.1 in
    let before = c.loop-files.invariant in
    rw (p.1, p.2) record {
      given = before.front.0;
      left = map string_bytes c.loop-files.left.now;
      front = rw append-nil at (before.front.1.1 [] _ no_word);
      next = tt;
    }

pub returns-clause-given : goal.returns-clause-given
returns-clause-given g c =
    let before = c.loop-files.invariant in
    let left = map string_bytes c.loop-files.left.now in
    let added = c.in_ok-push_copies.ensures ∙ ap (λ l. l ++ left) before.front.1.0
    ∙ append_assoc _ before.front.0 left in (
      _,
      (
        added,
        record {
          given = before.front.0;
          left = left;
          front = rw append-nil at (before.front.1.1 [] left no_word);
          end = search rules;
          all = refl;
        },
      ),
    )
