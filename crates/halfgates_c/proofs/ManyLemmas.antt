-- Handles of many garblings.
use Rattle.halfgates_c.proofs.Names.{ℕ, List, [], ◌∷◌, AllZip, CircuitWith, GarblingWith, IsGarblingUnder, Slot, HoldsGarbling, HoldsThis, arith}

-- Each handle of a garbling under its seed.
pub all_under : (c : CircuitWith) (seeds : List (List ℕ)) (gs : List GarblingWith)
    (slots : List Slot) → AllZip (IsGarblingUnder c) seeds gs → AllZip HoldsThis gs slots
    → AllZip (HoldsGarbling c) seeds slots
all_under c [] gs slots under held = grind arith
all_under c (seed ∷ seeds) (g ∷ gs) (slot ∷ slots) under held = (
  record { garbling = g; garbled = under.0; holds = held.0 },
  all_under c seeds gs slots under.1 held.1,
)
all_under c (seed ∷ seeds) gs slots under held = grind arith
