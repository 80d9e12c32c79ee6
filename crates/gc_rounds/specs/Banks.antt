-- The words of two banks: word 0 is that of bank 0, and word 1 that of bank 1.
use Rattle.std.specs.Prelude.{◌≡◌, ℕ, ◌+◌, ◌*◌, ◌<◌, ◌≤◌, List, length, min, slice_index}
use mathlib.Core.Option.{some}
use lib.ListN.{get_elem?}
use Rattle.gc_workers.specs.declared.TheConstants.{MAX_WORKERS}
use Rattle.gc_workers.specs.Counts.{total}
use Rattle.gc_rounds.specs.Words.{count_of, mark_of, round_of, bank_of}
use Rattle.gc_rounds.specs.Views.{counted, unfair, times_given, sealed_in}
use Rattle.gc_rounds.specs.declared.view.Position.TheVariants.{Inside}
use Rattle.gc_rounds.specs.declared.view.View.{View}

module _ {I : Type 0} where
  -- What a view says of the banks is so.
  pub record StandFits (jobs : ℕ) (words : List ℕ) (v : View I) : Type 0 where
    -- A seat inside a round sees a bank whose round it is, and the round has a job.
    pub sees : (r : ℕ) → v.position ≡ Inside r
        → (round_of (slice_index words (bank_of r)) ≡ r) × (r < jobs)
    -- It is counted in at one bank at most, and at none where it is for no seat.
    pub few : counted 0 v.position + counted 1 v.position ≤ v.seats
    -- Each exchange that gave a bank to its next round found it sealed with nobody counted in.
    pub fair : total unfair v.steps ≡ 0
    -- A view that stands for no seat is a seat's no more, and gave no bank on and sealed no round.
    pub spent : v.seats ≡ 0
        → (v.all ≡ 0) × ((b : ℕ) → times_given b v.steps ≡ 0) × ((r : ℕ) → sealed_in r v.steps ≡ 0)

  -- Bank b, between any two atomic steps.
  pub record BankSound (words : List ℕ) (views : List (View I)) (b : ℕ) : Type 0 where
    pub mark : mark_of (slice_index words b) < 2
    -- Its count is the number of seats that are inside or passing there.
    pub count : total (λ v. counted b v.position) views ≡ count_of (slice_index words b)
    -- Its round is its number, and twice the times that it was given to its next round.
    pub round : round_of (slice_index words b) ≡ b + 2 * total (λ v. times_given b v.steps) views

  -- Both banks, between any two atomic steps.
  pub record BanksSound (jobs seats : ℕ) (words : List ℕ) (views : List (View I)) : Type 0 where
    pub wide : 1 < length words
    pub banks : (b : ℕ) → b < 2 → BankSound words views b
    -- As long as its bank is in it, a round that has a job is sealed where a seat sealed it, and else open.
    pub sealed : (r : ℕ) → r < jobs → round_of (slice_index words (bank_of r)) ≡ r
        → mark_of (slice_index words (bank_of r)) ≡ min 1 (total (λ v. sealed_in r v.steps) views)
    -- No round is sealed before its bank is in it.
    pub early : (r : ℕ) → round_of (slice_index words (bank_of r)) < r
        → total (λ v. sealed_in r v.steps) views ≡ 0
    -- The views stand for all seats, which are 1 to MAX_WORKERS.
    pub dealt : total (λ v. v.seats) views ≡ seats
    pub few : (0 < seats) × (seats ≤ MAX_WORKERS)
    -- What each view says is so.
    pub fits : (id : ℕ) (v : View I) → get_elem? views id ≡ some v → StandFits jobs words v
