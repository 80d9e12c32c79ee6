-- The names that most proofs of this crate cite, passed on from one place. Declares nothing.
pub use Rattle.std.proofs.Common.{◌≡◌, ℕ, zero, suc, ◌+◌, Bool, List, [], ◌∷◌, length, slice_get, get_or, Option, Some, Ok, arith, ◌<◌, refl, ap, ◌∙◌, subst, length-append, sym, MatchOption, take, Vec, map, ◌-◌, All, ◌^◌, min, option_copied}
pub use Rattle.std.proofs.lemmas.Option.{slice_get-get_or, slice_get_read, slice_get_within}
pub use Rattle.gc_bank.specs.Rounds.{gates_of_each, IsRound}
pub use Rattle.gc_bank.specs.Seats.{InRound, round_in, IsNew, view, jobs_on, IsSeatOf}
pub use Rattle.gc_bank.specs.Views.{Seen, Answers, AnswersTwo, AnswersFour}
pub use Rattle.gc_bank.specs.Workers.{IsWorkerOf, AreWorkersOf, HasRoundBits, IsWorkerAt}
pub use Rattle.gc_bank.specs.declared.seat.BankSeat.{BankSeat}
pub use Rattle.gc_workers.proofs.Sums.{total-append}
pub use Rattle.gc_workers.specs.Counts.{total}
pub use Rattle.gc_steps.proofs.GatherLemmas.{all_but_last, all_last, total_last, length_last, pairs_merged}
pub use Rattle.gc_job.specs.ActiveLabels.{active}
pub use Rattle.gc_job.specs.Job.{JobParts}
pub use Rattle.gc_job.specs.Jobs.{AreBitsOf, AreKnown}
pub use Rattle.gc_netlist.specs.Circuit.{Netlist}
pub use Rattle.gc_gates.specs.Pairs.{pairs}
pub use Rattle.gc_gates.specs.Layout.{two_banks}
pub use Rattle.gc_gates.specs.Places.{IsGatePlace}
pub use Rattle.gc_rounds.specs.declared.view.Key.{Key}
pub use Rattle.gc_rounds.specs.declared.view.Position.TheVariants.{Inside, Outside}
pub use Rattle.gc_steps.specs.Walks.{groups_left}
