use Rattle.gc_cli.proofs.Names.{rules, [], ◌∷◌, ◌++◌, ◌∙◌, ap, append_assoc, Some, None, lit<, on_ok_weaker, last_line}
use Rattle.std.proofs.lemmas.Str.Pattern.{split_parts}
use Rattle.gc_cli.proofs.ArgumentsLemmas.{lines-end, lines-next, no-text, some-text}
use Rattle.gc_cli.proofs.arguments.push_lines.Goals as goal

pub loop-line-preserved : goal.loop-line-preserved
loop-line-preserved g c =
    let before = c.loop-line.invariant.lines in
    let line = c.in-Some.line.now in
    let cut = split_parts 10 c.loop-line.rest.now (Some (c.in-Some.line, c.in-Some.after))
    c.in-Some.ensures.cases (lit< tt) in
    let added = c.in_ok-push_argument.ensures ∙ ap (λ l. l ++ line ∷ []) before.1.0
    ∙ append_assoc _ before.0 (line ∷ []) in
    record {
      utf8 = search rules;
      lines = (_, (added, lines-next _ _ line _ before.0 before.1.1 cut.0 cut.1));
    }

pub returns-then-is_empty : goal.returns-then-is_empty
returns-then-is_empty g c =
    let before = c.loop-line.invariant.lines in
    let none = no-text _ _ c.is_empty.ensures c.if-is_empty.true in
    (before.0, (before.1.0, lines-end _ _ before.0 before.1.1 none))

pub returns : goal.returns
returns g c =
    let before = c.loop-line.invariant.lines in
    let rest = c.loop-line.rest.now in
    let whole = split_parts 10 rest None c.in_default.ensures.cases (lit< tt) in
    let last = last_line (some-text _ _ c.is_empty.ensures c.if-is_empty.false) whole in
    let text = before.1.1 (rest ∷ []) last in
    on_ok_weaker c.push_argument-2.result (λ pushed. (
      before.0 ++ rest ∷ [],
      (pushed ∙ ap (λ l. l ++ rest ∷ []) before.1.0 ∙ append_assoc _ before.0 (rest ∷ []), text),
    )) c.push_argument-2.ensures
