use Rattle.gc_cli.proofs.Names.{◌∙◌, inl, inr, map, string_bytes, ⊎_elim, fun_ext}
use Rattle.gc_cli.proofs.ArgumentsLemmas.{themselves-stand}
use Rattle.gc_cli.proofs.whole_run.serve.Goals as goal

pub returns-then-stand_for_themselves-clause-done :
    goal.returns-then-stand_for_themselves-clause-done
returns-then-stand_for_themselves-clause-done g c = λ is.
    let words = map string_bytes c.args.words.now in
    let stand = themselves-stand _ _
    (c.stand_for_themselves.ensures.yes c.if-stand_for_themselves.true) in
    let end = c.serve_asked.ensures.done is words c.args.heap.now
    c.order.new.self c.order.ensures.asked in
    (words, (stand, end))

pub returns-then-stand_for_themselves-clause-dishonest :
    goal.returns-then-stand_for_themselves-clause-dishonest
returns-then-stand_for_themselves-clause-dishonest g c = λ is.
    let words = map string_bytes c.args.words.now in
    let stand = themselves-stand _ _
    (c.stand_for_themselves.ensures.yes c.if-stand_for_themselves.true) in
    let end = c.serve_asked.ensures.dishonest is words c.args.heap.now
    c.order.new.self c.order.ensures.asked in
    (words, (stand, end))

pub returns-then-stand_for_themselves-clause-fault :
    goal.returns-then-stand_for_themselves-clause-fault
returns-then-stand_for_themselves-clause-fault g c = λ is.
    let words = map string_bytes c.args.words.now in
    let stand = themselves-stand _ _
    (c.stand_for_themselves.ensures.yes c.if-stand_for_themselves.true) in
    let end = c.serve_asked.ensures.fault is words c.args.heap.now
    c.order.new.self c.order.ensures.asked in
    inl (words, (stand, end))

pub returns-then-stand_for_themselves-clause-fault_words :
    goal.returns-then-stand_for_themselves-clause-fault_words
returns-then-stand_for_themselves-clause-fault_words g c = λ _ is.
    c.serve_asked.ensures.fault is (map string_bytes c.args.words.now) c.args.heap.now
    c.order.new.self c.order.ensures.asked

pub returns-then-stand_for_themselves-clause-usage :
    goal.returns-then-stand_for_themselves-clause-usage
returns-then-stand_for_themselves-clause-usage g c = λ is.
    let words = map string_bytes c.args.words.now in
    let stand = themselves-stand _ _
    (c.stand_for_themselves.ensures.yes c.if-stand_for_themselves.true) in
    ⊎_elim (λ mistaken. inl (words, (stand, mistaken))) (λ short. inr (inr short))
    (c.serve_asked.ensures.usage is words c.args.heap.now c.order.new.self c.order.ensures.asked)

pub returns-then-stand_for_themselves-clause-mistaken :
    goal.returns-then-stand_for_themselves-clause-mistaken
returns-then-stand_for_themselves-clause-mistaken g c =
    let words = map string_bytes c.args.words.now in
    let stand = themselves-stand _ _
    (c.stand_for_themselves.ensures.yes c.if-stand_for_themselves.true) in
    let end = c.serve_asked.ensures.mistaken words c.args.heap.now
    c.order.new.self c.order.ensures.asked in
    inl (words, (stand, end))

pub returns-then-stand_for_themselves-clause-mistaken_words :
    goal.returns-then-stand_for_themselves-clause-mistaken_words
returns-then-stand_for_themselves-clause-mistaken_words g c = λ _.
    c.serve_asked.ensures.mistaken (map string_bytes c.args.words.now) c.args.heap.now
    c.order.new.self c.order.ensures.asked

pub returns-then-stand_for_themselves-clause-others :
    goal.returns-then-stand_for_themselves-clause-others
returns-then-stand_for_themselves-clause-others g c = λ name none.
    let words = map string_bytes c.args.words.now in
    let stand = themselves-stand _ _
    (c.stand_for_themselves.ensures.yes c.if-stand_for_themselves.true) in
    c.serve_asked.ensures.others words c.args.heap.now c.order.new.self c.order.ensures.asked name
    (λ asks. none (words, (stand, asks)))

pub returns-in-Ok-clause-done : goal.returns-in-Ok-clause-done
returns-in-Ok-clause-done g c = λ is.
    let words = map string_bytes c.in-Ok.arguments.items in
    let asked = rw c.deref.ensures.value at c.order-in-Ok.ensures.asked in
    let end = c.serve_asked-in-Ok.ensures.done is words c.args.heap.now
    c.order-in-Ok.new.self asked in
    (words, (c.in-Ok.ensures.given, rw (fun_ext c.arguments_of.ensures.same) at end))

pub returns-in-Ok-clause-dishonest : goal.returns-in-Ok-clause-dishonest
returns-in-Ok-clause-dishonest g c = λ is.
    let words = map string_bytes c.in-Ok.arguments.items in
    let asked = rw c.deref.ensures.value at c.order-in-Ok.ensures.asked in
    let end = c.serve_asked-in-Ok.ensures.dishonest is words c.args.heap.now
    c.order-in-Ok.new.self asked in
    (words, (c.in-Ok.ensures.given, rw (fun_ext c.arguments_of.ensures.same) at end))

pub returns-in-Ok-clause-fault : goal.returns-in-Ok-clause-fault
returns-in-Ok-clause-fault g c = λ is.
    let words = map string_bytes c.in-Ok.arguments.items in
    let asked = rw c.deref.ensures.value at c.order-in-Ok.ensures.asked in
    let end = c.serve_asked-in-Ok.ensures.fault is words c.args.heap.now
    c.order-in-Ok.new.self asked in
    inl (
      words,
      (
        c.in-Ok.ensures.given,
        rw (fun_ext c.arguments_of.ensures.same, c.in-Ok.ensures.unfailed) at end,
      ),
    )

pub returns-in-Ok-clause-usage : goal.returns-in-Ok-clause-usage
returns-in-Ok-clause-usage g c = λ is.
    let words = map string_bytes c.in-Ok.arguments.items in
    let asked = rw c.deref.ensures.value at c.order-in-Ok.ensures.asked in
    ⊎_elim (λ mistaken. inl (words, (c.in-Ok.ensures.given, mistaken)))
    (λ short. inr (inr short)) (c.serve_asked-in-Ok.ensures.usage is words c.args.heap.now
    c.order-in-Ok.new.self asked)

pub returns-in-Ok-clause-mistaken : goal.returns-in-Ok-clause-mistaken
returns-in-Ok-clause-mistaken g c =
    let words = map string_bytes c.in-Ok.arguments.items in
    let asked = rw c.deref.ensures.value at c.order-in-Ok.ensures.asked in
    inl (
      words,
      (
        c.in-Ok.ensures.given,
        c.serve_asked-in-Ok.ensures.mistaken words c.args.heap.now
            c.order-in-Ok.new.self asked,
      ),
    )

pub returns-in-Ok-clause-others : goal.returns-in-Ok-clause-others
returns-in-Ok-clause-others g c = λ name none.
    let words = map string_bytes c.in-Ok.arguments.items in
    let asked = rw c.deref.ensures.value at c.order-in-Ok.ensures.asked in
    c.serve_asked-in-Ok.ensures.others words c.args.heap.now c.order-in-Ok.new.self asked name
    (λ asks. none (words, (c.in-Ok.ensures.given, asks)))
    ∙ c.arguments_of.ensures.same name
