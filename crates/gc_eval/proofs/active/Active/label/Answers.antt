use Rattle.gc_eval.proofs.Names.{◌+◌, ◌*◌, ◌<◌, inl, inr, ⊎_elim, arith, sym, ◌∙◌, slots_items, slots_len, input_wires, set_once, set_within, active_solves, word_is}
use Rattle.gc_steps.proofs.LabelLemmas.{joined}
use Rattle.gc_eval.proofs.active.Active.label.Given.{Over}
use Rattle.gc_eval.proofs.active.Active.label.Goals.{In-Some}
use Rattle.gc_eval.proofs.active.Active.label.Goals as goal

-- The words of the gate are there.
has_words : (g : Over) (c : In-Some g)
    → 3 * c.in-Some.gate + 2 < slots_len c.args.self.now.closed.words
has_words g c =
    let by = rw c.args.self.now.wired at c.in-Some.ensures.some in
    omega (arith, set_within _ _ _ by, c.args.self.now.long.0)

pub returns-then-wire-input_wires-clause-some : goal.returns-then-wire-input_wires-clause-some
returns-then-wire-input_wires-clause-some g c =
    let job = c.args.self.now.job.now in
    let input : c.args.wire < input_wires job.circuit =
    omega (arith, rw c.circuit.ensures.circuit at c.input_wires.ensures) in (
      c.input.ensures
          ∙ sym ((active_solves job c.circuit.ensures.whole.lawful).inputs c.args.wire input),
      inl input,
    )

pub returns-in_default-clause-none : goal.returns-in_default-clause-none
returns-in_default-clause-none g c = ⊎_elim
    (λ input. absurd (omega (arith, rw c.circuit.ensures.circuit at c.input_wires.ensures)))
    (λ done. c.in_default.ensures.none done.0 (rw c.args.self.now.wired done.1))

pub word-requires : goal.word-requires
word-requires g c =
    (omega (arith, has_words g (goal.at.word-requires g c).In-Some), c.args.self.now.long.2)

pub word-low-requires : goal.word-low-requires
word-low-requires g c =
    (omega (arith, has_words g (goal.at.word-low-requires g c).In-Some), c.args.self.now.long.2)

pub word-high-requires : goal.word-high-requires
word-high-requires g c =
    (omega (arith, has_words g (goal.at.word-high-requires g c).In-Some), c.args.self.now.long.2)

pub returns-then-word-eq-DONE-clause-some : goal.returns-then-word-eq-DONE-clause-some
returns-then-word-eq-DONE-clause-some g c =
    let words = slots_items c.args.self.now.closed.words in
    let by = rw c.args.self.now.wired at c.in-Some.ensures.some in
    let gate = c.in-Some.gate in
    let done = word_is words (3 * gate) _ c.word.ensures ∙ c.if-word-eq-DONE.true in
    let cell = c.args.self.now.right gate in
    let low = word_is words (3 * gate + 1) _ c.word-low.ensures in
    let high = word_is words (3 * gate + 2) _ c.word-high.ensures in
    let label = rw (low, high)
    at (joined c.args.self.now.job.now gate _ _ (cell.low done) (cell.high done)) in
    (c.from_halves.ensures ∙ rw (← by.wire) (rw by.at at label), inr (gate, by, done))

pub returns-else-word-eq-DONE-clause-none : goal.returns-else-word-eq-DONE-clause-none
returns-else-word-eq-DONE-clause-none g c = ⊎_elim
    (λ input. absurd (omega (arith, rw c.circuit.ensures.circuit at c.input_wires.ensures)))
    (λ done.
    let by = rw c.args.self.now.wired at c.in-Some.ensures.some in
    let same = set_once _ _ _ _ c.circuit.ensures.whole.lawful by done.1 in
    let words = slots_items c.args.self.now.closed.words in
    let word = word_is words (3 * c.in-Some.gate) _ c.word.ensures in
    c.if-word-eq-DONE.false (sym word ∙ (rw (← same) at done.2)))
