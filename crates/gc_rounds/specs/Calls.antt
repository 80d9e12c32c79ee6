-- What each call's result says of the words that its steps found. Each call adds these steps alone to the record.
use Rattle.std.specs.Prelude.{◌≡◌, ◌≢◌, ℕ, ◌<◌, true, false}
use Rattle.gc_rounds.specs.Words.{count_of, mark_of, round_of, bank_of, shut_word}
use Rattle.gc_rounds.specs.Views.{reached, sealed_in}
use Rattle.gc_rounds.specs.Steps.{IsOpenIn, recorded}
use Rattle.gc_rounds.specs.declared.view.Position.TheVariants.{Outside, Inside, Passing}
use Rattle.gc_rounds.specs.declared.view.Step.TheVariants.{Enter, Leave, Seal, Reopen}
use Rattle.gc_rounds.specs.declared.view.View.{View}
use Rattle.gc_rounds.specs.declared.calls.Entry.{Entry}
use Rattle.gc_rounds.specs.declared.calls.Entry.TheVariants as entry
use Rattle.gc_rounds.specs.declared.calls.Reopening.{Reopening}
use Rattle.gc_rounds.specs.declared.calls.Reopening.TheVariants.{Given, NotSealed, Busy, OtherRound}

module _ {I : Type 0} where
  -- The entry into round r found a word that refuses it, and the seat was taken out again.
  abbrev pub Refused : ℕ → View I → View I → (ℕ → Type 0) → Type 0
  Refused r old new why =
      (found : ℕ) × (back : ℕ) × why found
      × (new ≡ recorded (recorded old (Passing (bank_of r)) (Enter (bank_of r) found)) Outside
      (Leave (bank_of r) back))

  -- An entry into round r: inside where the bank was found open in it, shut where it was found sealed in it, and else
  -- the other round that was found.
  abbrev pub Enters : ℕ → View I → View I → Entry → Type 0
  Enters r old new entry.Inside =
      (found : ℕ) × IsOpenIn r found × (new ≡ recorded old (Inside r) (Enter (bank_of r) found))
  Enters r old new entry.Shut = Refused r old new (λ n. (round_of n ≡ r) × (mark_of n ≡ 1))
  Enters r old new (entry.OtherRound k) = Refused r old new (λ n. (round_of n ≡ k) × (k ≢ r))

  -- An entry into round r by a view that stands for all seats: its own steps took the bank to the round, and it is
  -- inside where none of them sealed it, and else shut; or they took the bank to the other round.
  abbrev pub EntersAlone : ℕ → View I → Entry → Type 0
  EntersAlone r old entry.Inside = (reached (bank_of r) old.steps ≡ r) × (sealed_in r old.steps ≡ 0)
  EntersAlone r old entry.Shut = (reached (bank_of r) old.steps ≡ r) × (0 < sealed_in r old.steps)
  EntersAlone r old (entry.OtherRound k) = reached (bank_of r) old.steps ≡ k

  -- A seat leaves round r.
  abbrev pub Leaves : ℕ → View I → View I → Type 0
  Leaves r old new = (found : ℕ) × (new ≡ recorded old Outside (Leave (bank_of r) found))

  -- A seat inside round r seals it.
  abbrev pub Seals : ℕ → View I → View I → Type 0
  Seals r old new = (found : ℕ) × (new ≡ recorded old (Inside r) (Seal (bank_of r) found))

  -- The exchange lost, and found this word.
  abbrev pub Lost : ℕ → View I → View I → (ℕ → Type 0) → Type 0
  Lost r old new why =
      (found : ℕ) × why found × (new ≡ recorded old Outside (Reopen (bank_of r) found false))

  -- A try to give the bank of round r to round r + 2: it won where it found the bank sealed in round r with nobody
  -- counted in, and else the result says what it found.
  abbrev pub Reopens : ℕ → View I → View I → Reopening → Type 0
  Reopens r old new Given = new ≡ recorded old Outside (Reopen (bank_of r) (shut_word r) true)
  Reopens r old new NotSealed = Lost r old new (λ n. (round_of n ≡ r) × (mark_of n ≡ 0))
  Reopens r old new Busy =
      Lost r old new (λ n. (round_of n ≡ r) × (mark_of n ≡ 1) × (0 < count_of n))
  Reopens r old new (OtherRound k) = Lost r old new (λ n. (round_of n ≡ k) × (k ≢ r))
