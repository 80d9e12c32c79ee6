-- The names that most proofs of this crate cite, passed on from one place. Declares nothing.
pub use Rattle.std.proofs.Common.{◌≡◌, ℕ, zero, suc, ◌+◌, ◌⊎◌, inl, ⊎_elim, Bool, List, [], ◌∷◌, ◌++◌, length, slice_get, get_or, Some, arith, ◌≢◌, ◌*◌, ◌%◌, ◌<◌, ◌≤◌, refl, ap, ◌∙◌, rules, append_assoc, length-append, sym, inr, All, eq-eqb, ne_eqb, Result}
pub use Rattle.gc_steps.specs.Views.{IsMadeNow, made_after, IsAlone, SetsMade, ReadsMade, FirstLacking, AnswersAlone, sighting, sightings, Seen, Ran, Got, Lacks, Says, Answers, AnswersTwo, AnswersFour, IsPrepared, after_taken}
pub use Rattle.gc_workers.proofs.Sums.{total-append, only_same, only_other}
pub use Rattle.gc_workers.specs.Counts.{total, only}
pub use Rattle.gc_job.proofs.WiringLemmas.{input_not_set, set_within, set_once}
pub use Rattle.gc_job.specs.ActiveLabels.{active, set_of, active_from}
pub use Rattle.gc_job.specs.Evaluate.{IsEvaluated, IsDecodingOf, labels_of}
pub use Rattle.gc_job.specs.Job.{JobParts, IsWhole}
pub use Rattle.gc_netlist.specs.Circuit.{IsLawful, and_number, input_wires, first_wire, second_wire}
pub use Rattle.gc_gates.specs.Pairs.{is_pair, pairs}
pub use Rattle.gc_gates.specs.Places.{IsGatePlace}
pub use Rattle.gc_rounds.specs.declared.view.Key.{Key}
pub use Rattle.gc_steps.specs.Walks.{made_now}
