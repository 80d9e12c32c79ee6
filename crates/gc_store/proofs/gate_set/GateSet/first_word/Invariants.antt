use Rattle.gc_store.proofs.Names.{◌≡◌, ◌-◌, length, IsGateSet}
use Rattle.gc_store.proofs.gate_set.GateSet.first_word.Given as goal

abbrev pub invariant-loop-self : goal.invariant-loop-self
invariant-loop-self g l = record {
  words : l.self-inside.words ≡ l.initial.self-inside.words;
  set : IsGateSet l.self-inside.words l.self-inside.filled l.self-inside.start;
}

abbrev pub decreases-loop-self : goal.decreases-loop-self
decreases-loop-self g l = length l.self-inside.filled - l.self-inside.start
