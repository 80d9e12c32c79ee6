use Rattle.gc_cli.proofs.Names.{◌≡◌, ◌∙◌, codes, refl, string_bytes, subst, sym, IsOption, no_more, one_more}
use Rattle.gc_cli.proofs.ArgumentsLemmas.{first-word, no-option-plain, none-plain, option-plain, other-text, plain-later, same-text}
use Rattle.gc_cli.proofs.arguments.are_plain.Goals as goal

pub returns-then-eq-clause-yes : goal.returns-then-eq-clause-yes
returns-then-eq-clause-yes c = λ _.
    let end = sym c.as_str.ensures.value ∙ same-text _ _ _ c.eq.ensures c.if-eq.true in
    c.loop-word.invariant.yes
    (rw (first-word string_bytes _ _ _ _ c.in-Some.ensures.cases.0 end) (no_more refl))

pub returns-then-is_option-clause-no : goal.returns-then-is_option-clause-no
returns-then-is_option-clause-no c = λ _ plain.
    let other = other-text _ _ _ c.eq.ensures c.if-eq.false in
    let first = first-word string_bytes _ _ _ _ c.in-Some.ensures.cases.0 refl in
    option-plain _ _ (λ e. other (c.as_str.ensures.value ∙ e))
    (subst IsOption c.as_str-in-Some.ensures.value (c.is_option.ensures.yes c.if-is_option.true))
    (rw first at (c.loop-word.invariant.no plain))

pub loop-word-preserved : goal.loop-word-preserved
loop-word-preserved c =
    let other = other-text _ _ _ c.eq.ensures c.if-eq.false in
    let no_end = λ (e : string_bytes c.in-Some.word.now ≡ codes "--").
    other (c.as_str.ensures.value ∙ e) in
    let no_option = λ (o : IsOption (string_bytes c.in-Some.word.now)).
    c.is_option.ensures.no c.if-is_option.false
    (subst IsOption (sym c.as_str-in-Some.ensures.value) o) in
    let first = first-word string_bytes _ _ _ _ c.in-Some.ensures.cases.0 refl in
    record {
      yes = λ later. c.loop-word.invariant.yes
          (rw first (one_more (no-option-plain _ no_end no_option) later));
      no = λ plain. plain-later _ _ no_end (rw first at (c.loop-word.invariant.no plain));
    }

pub returns-clause-yes : goal.returns-clause-yes
returns-clause-yes c = λ _.
    c.loop-word.invariant.yes (none-plain string_bytes _ c.in_default.ensures.cases)
