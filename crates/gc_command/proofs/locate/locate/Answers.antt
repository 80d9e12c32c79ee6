use Rattle.gc_command.proofs.Names.{◌≡◌, ℕ, List, Option, Some, None, IfSome, codes, inl, Netlist, IsLawful, Spells, GivesFile}
use Rattle.gc_netlist.proofs.ReadingLaws.{reading_law}
use Rattle.gc_command.specs.Locate.{AnswersLocate}
use Rattle.gc_command.proofs.locate.locate.Goals as goal

-- A text that has no fault is a circuit's.
accepted : (known : Option (List ℕ)) (text given lines : List ℕ) → GivesFile known text
    → given ≡ text → ((c : Netlist) × IsLawful c × Spells given c) → lines ≡ codes "no fault\n"
    → IfSome known (λ bytes. AnswersLocate bytes lines)
accepted None text given lines gives same is printed = tt
accepted (Some known) text given lines gives same (c, lawful, spells) printed =
    let spelled = rw (same, gives) at spells in
    let read = ((reading_law known).reads c).1 (lawful, spelled) in
    inl (c, record { read = read; spelled = spelled; lawful = lawful }, printed)

pub returns-in-Ok-None-clause-answers : goal.returns-in-Ok-None-clause-answers
returns-in-Ok-None-clause-answers g c =
    accepted _ c.in_ok-text.text.items _ _ c.in_ok-text.ensures.given c.deref.ensures.value
    (rw c.in-Ok-None.field-0-is at c.in-Ok-None.ensures) c.in_ok-from_slice-in-Ok-None.ensures.items
