-- What each kind of step does to the view of the seat that steps, and how views are cut and joined.
use Rattle.std.specs.Prelude.{◌≡◌, ℕ, ◌+◌, ◌-◌, ◌<◌, [], ◌∷◌, ◌++◌, ◌==◌, if◌then◌else◌, min}
use Rattle.atomic_table.specs.Table.{Me}
use Rattle.atomic_table.specs.Table as table
use Rattle.gc_rounds.specs.Words.{mark_of, round_of, bank_of}
use Rattle.gc_rounds.specs.Views.{reached, sealed_in}
use Rattle.gc_rounds.specs.declared.view.Position.{Position}
use Rattle.gc_rounds.specs.declared.view.Position.TheVariants.{Outside, Inside, Passing}
use Rattle.gc_rounds.specs.declared.view.Step.{Step}
use Rattle.gc_rounds.specs.declared.view.Step.TheVariants.{Enter, Leave, Seal, Reopen}
use Rattle.gc_rounds.specs.declared.view.View.{View}

-- The word says that its bank is open in round r.
abbrev pub IsOpenIn : ℕ → ℕ → Type 0
IsOpenIn r n = (round_of n ≡ r) × (mark_of n ≡ 0)

-- Where a seat is whose entry into round r found this word: inside where the bank is open in the round, and else
-- passing.
abbrev pub position_after : ℕ → ℕ → Position
position_after r found =
    if round_of found == r then (if mark_of found == 0 then Inside r else Passing (bank_of r))
    else Passing (bank_of r)

module _ {I : Type 0} where
  -- the view at this position, and one step more in its record
  abbrev pub recorded : View I → Position → Step → View I
  recorded v position s = record {
    jobs = v.jobs;
    all = v.all;
    seats = v.seats;
    position = position;
    steps = v.steps ++ s ∷ [];
    inner = v.inner;
  }

  -- The word that a view that stands for all seats finds at the bank of round r is its own doing: its steps took the
  -- bank to the round that is found, and round r is sealed where one of them sealed it, and else open.
  pub record IsOwn (v : View I) (r found : ℕ) : Type 0 where
    pub round : round_of found ≡ reached (bank_of r) v.steps
    pub mark : round_of found ≡ r → mark_of found ≡ min 1 (sealed_in r v.steps)

  -- Each kind of step, of the seat before, the word found, and the seat after. None takes or gives a slot.
  module _ {S : Type 0} where
    abbrev pub viewed : Me S (View I) → ℕ → Me S (View I) → View I → Type 0
    viewed m found m' w = (m'.1 ≡ m.1) × (mark_of found < 2) × (m'.0 ≡ w)

    -- an entry into round r counts the seat in
    abbrev pub entered : ℕ → table.Step S → Me S (View I) → ℕ → Me S (View I) → Type 0
    entered r st m found m' =
        viewed m found m' (recorded m.0 (position_after r found) (Enter st.word found))
        × (m.0.seats ≡ m.0.all → IsOwn m.0 r found)

    -- a seat is taken out
    abbrev pub left : table.Step S → Me S (View I) → ℕ → Me S (View I) → Type 0
    left st m found m' = viewed m found m' (recorded m.0 Outside (Leave st.word found))

    -- a seat puts the mark on its bank
    abbrev pub sealed : table.Step S → Me S (View I) → ℕ → Me S (View I) → Type 0
    sealed st m found m' = viewed m found m' (recorded m.0 m.0.position (Seal st.word found))

    -- a seat tries to give a bank to its next round, and wins where it found the word that it expected
    abbrev pub tried : table.Step S → Me S (View I) → ℕ → Me S (View I) → Type 0
    tried st m found m' =
        viewed m found m' (recorded m.0 m.0.position (Reopen st.word found (found == st.first)))

  -- the view at the opening, which stands for all seats
  abbrev pub starting : ℕ → ℕ → I → View I
  starting jobs seats inner = record {
    jobs = jobs;
    all = seats;
    seats = seats;
    position = Outside;
    steps = [];
    inner = inner;
  }

  -- a view that stands for one seat less
  abbrev pub one_less : View I → View I
  one_less v = record {
    jobs = v.jobs;
    all = v.all;
    seats = v.seats - 1;
    position = v.position;
    steps = v.steps;
    inner = v.inner;
  }

  -- the seat that is dealt out of it, which has done nothing
  abbrev pub newcomer : View I → I → View I
  newcomer v inner = record {
    jobs = v.jobs;
    all = v.all;
    seats = 1;
    position = Outside;
    steps = [];
    inner = inner;
  }

  -- two views in one, standing where the first stands
  abbrev pub merged : View I → View I → I → View I
  merged v w inner = record {
    jobs = v.jobs;
    all = v.all;
    seats = v.seats + w.seats;
    position = v.position;
    steps = v.steps ++ w.steps;
    inner = inner;
  }

  -- what is left of a view that was joined to another
  abbrev pub nobody : I → View I
  nobody inner =
      record { jobs = 0; all = 0; seats = 0; position = Outside; steps = []; inner = inner }
