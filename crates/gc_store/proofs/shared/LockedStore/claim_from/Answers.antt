use Rattle.std.proofs.Common.{inl, inr}
use Rattle.gc_store.proofs.shared.LockedStore.claim_from.Goals as goal

pub returns-clause-none : goal.returns-clause-none
returns-clause-none g c = λ not_full. elim c.claim_from.ensures.step.ends [
  | inl full ↦ let is_full = c.is_full.ensures.full.1 full in let none : ⊥ = cc in absurd none
  | inr none ↦ none
]
