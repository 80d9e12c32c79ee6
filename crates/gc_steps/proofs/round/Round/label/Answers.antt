use Rattle.gc_steps.proofs.Names.{arith, refl, ◌<◌, set_once, set_within}
use Rattle.gc_steps.proofs.RunLemmas.{got_input, unknown, saw_step, still_in}
use Rattle.gc_steps.proofs.round.Round.label.Given.{Over}
use Rattle.gc_steps.proofs.round.Round.label.Goals.{In-Some}
use Rattle.gc_steps.proofs.round.Round.label.Goals as goal

-- There are words for the gate that sets the wire.
exists : (g : Over) (c : In-Some g)
    → c.in-Some.gate < g.J.Subject.gates c.args.self.now.words.now.key.about
exists g c =
    let by = rw (← c.args.self.now.wired) at c.in-Some.ensures.some in
    omega (arith, set_within _ _ _ by, c.args.self.now.gates)

pub returns-then-wire-input_wires-clause-some : goal.returns-then-wire-input_wires-clause-some
returns-then-wire-input_wires-clause-some g c =
    got_input c.circuit.ensures.whole.lawful
    (omega (arith, rw c.circuit.ensures.circuit at c.input_wires.ensures)) c.input.ensures

pub returns-in_default-clause-none : goal.returns-in_default-clause-none
returns-in_default-clause-none g c = record {
  no_input = λ input. absurd (omega (arith, rw c.circuit.ensures.circuit at c.input_wires.ensures));
  unknown = λ h set. absurd (c.in_default.ensures.none h (rw c.args.self.now.wired at set));
}

pub returns-in_default-clause-alone : goal.returns-in_default-clause-alone
returns-in_default-clause-alone g c = λ alone h set.
    absurd (c.in_default.ensures.none h (rw c.args.self.now.wired at set))

pub load_state-requires : goal.load_state-requires
load_state-requires g c = record {
  place = c.requires.place.place;
  inside = c.requires.place.inside;
  exists = exists g (goal.at.load_state-requires g c).In-Some;
}

pub load_label-requires-clause-place : goal.load_label-requires-clause-place
load_label-requires-clause-place g c =
    let view = c.load_state.ensures.view in let place = c.requires.place.place in record {
      place = still_in place c.load_state.ensures.same (rw view) (rw view) (rw view);
      inside = rw view c.requires.place.inside;
      exists = exists g (goal.at.load_label-requires-clause-place g c).In-Some;
    }

pub returns-else-load_state-stamped-clause-none : goal.returns-else-load_state-stamped-clause-none
returns-else-load_state-stamped-clause-none g c =
    let by = rw (← c.args.self.now.wired) at c.in-Some.ensures.some in
    let finds = c.load_state.ensures.finds in
    let not_two = rw c.stamped.ensures at c.if-load_state-stamped.false in
    record {
      no_input = λ input.
          absurd (omega (arith, rw c.circuit.ensures.circuit at c.input_wires.ensures));
      unknown = λ h set. rw (← set_once _ _ _ h c.circuit.ensures.whole.lawful by set) (
        unknown _ _ _ finds.known not_two,
        (
          c.load_state.result,
          omega (arith, not_two, finds.state, finds.round),
          rw c.load_state.ensures.view (saw_step _ _ _ _ refl),
        ),
      );
    }
