use Rattle.gc_cli.proofs.Names.{◌∙◌, sym, string_bytes, inl, inr, err_from_is_err_and, file_lines}
use Rattle.gc_cli.proofs.ArgumentsLemmas.{first-word, next-refused, not-end, one-word, other-text, plain-first, same-text, two-words}
use Rattle.gc_cli.proofs.arguments.push_first.Goals as goal

pub returns-in_default-split_first-clause-refusal :
    goal.returns-in_default-split_first-clause-refusal
returns-in_default-split_first-clause-refusal g c =
    one-word string_bytes _ _ _ _ c.in-Some.ensures.cases.0 c.in_default-split_first.ensures.cases
    (sym c.as_str.ensures.value ∙ same-text _ _ _ c.eq.ensures c.if-eq.true)

pub returns-in_err-push_file-clause-refusal : goal.returns-in_err-push_file-clause-refusal
returns-in_err-push_file-clause-refusal g c =
    let p = err_from_is_err_and c.from_residual.result c.from_residual.ensures.1 in
    let begin = two-words string_bytes _ _ _ _ _ _ _ c.in-Some.ensures.cases.0
    c.in-Some-split_first.ensures.cases.0
    (sym c.as_str.ensures.value ∙ same-text _ _ _ c.eq.ensures c.if-eq.true)
    (sym c.as_str-then-eq.ensures.value) in
    rw (p.1, p.2)
    (next-refused _ _ _ _ _ _ (inl begin) c.in_err-push_file.ensures.refusal)

pub returns-then-eq-clause-given : goal.returns-then-eq-clause-given
returns-then-eq-clause-given g c =
    let given = c.in_ok-push_file.ensures.given in
    let begin = two-words string_bytes _ _ _ _ _ _ _ c.in-Some.ensures.cases.0
    c.in-Some-split_first.ensures.cases.0
    (sym c.as_str.ensures.value ∙ same-text _ _ _ c.eq.ensures c.if-eq.true)
    (sym c.as_str-then-eq.ensures.value) in
    (given.0, (given.1.0, file_lines _ (inl begin) given.1.1))

pub returns-in_err-push_file-2-clause-refusal : goal.returns-in_err-push_file-2-clause-refusal
returns-in_err-push_file-2-clause-refusal g c =
    let p = err_from_is_err_and c.from_residual-in_err-push_file-2.result
    c.from_residual-in_err-push_file-2.ensures.1 in
    let begin = first-word string_bytes _ _ _ _ c.in-Some.ensures.cases.0
    (sym c.as_str-2.ensures.value ∙ c.in-Some-file_in.ensures.file) in
    rw (p.1, p.2)
    (next-refused _ _ _ _ _ _ (inr begin) c.in_err-push_file-2.ensures.refusal)

pub returns-in-Some-file_in-clause-given : goal.returns-in-Some-file_in-clause-given
returns-in-Some-file_in-clause-given g c =
    let given = c.in_ok-push_file-2.ensures.given in
    let begin = first-word string_bytes _ _ _ _ c.in-Some.ensures.cases.0
    (sym c.as_str-2.ensures.value ∙ c.in-Some-file_in.ensures.file) in
    (given.0, (given.1.0, file_lines _ (inr begin) given.1.1))

pub returns-clause-given : goal.returns-clause-given
returns-clause-given g c =
    let other = other-text _ _ _ c.eq.ensures c.if-eq.false in
    let is = sym c.as_str-3.ensures.value in
    let first = plain-first string_bytes _ _ _ _ _ c.in-Some.ensures.cases.0 is record {
      no_end = not-end string_bytes _ _ _ _ c.in-Some.ensures.cases.0 is c.requires;
      no_option = λ e. other (c.as_str.ensures.value ∙ is ∙ e);
      no_option_with_file = λ name e.
          c.in_default-file_in.ensures.none name (c.as_str-2.ensures.value ∙ is ∙ e);
    } in
    (_, (c.in_ok-push_argument.ensures, first))
