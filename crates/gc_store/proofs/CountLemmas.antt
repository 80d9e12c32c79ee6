-- How many gates are finished, after a step.
use Rattle.gc_store.proofs.Names.{◌≡◌, ◌+◌, List, [], ◌∷◌, Bool, Option, Some, Ok, count_by, map, refl, ◌∙◌, arith, Task, State, Content, is_finished, Claims, ClaimsAll, Finishes, reopened, count_by-set, count_by-set_more, count_by-map}

-- A claim finishes none.
pub claims-count : (old new : Content) (answer : Option Task) → Claims old answer new
    → count_by is_finished new.states ≡ count_by is_finished old.states
claims-count old new answer step = grind (arith, count_by-set)

-- A task that is accepted finishes one gate.
pub finishes-count : (old new : Content) (task : Task) (complete : Bool)
    → Finishes old task (Ok complete) new
    → count_by is_finished new.states ≡ count_by is_finished old.states + 1
finishes-count old new task complete step = grind (arith, count_by-set_more)

-- Nor do several.
pub ClaimsAll-count : (old new : Content) (tasks : List Task) → ClaimsAll old tasks new
    → count_by is_finished new.states ≡ count_by is_finished old.states
ClaimsAll-count old new [] all = rw all refl
ClaimsAll-count old new (task ∷ tasks) all =
    ClaimsAll-count all.0 new tasks all.2 ∙ claims-count old all.0 (Some task) all.1

-- A state is finished where it was before it was reopened.
pub reopened-count : (states : List State)
    → count_by is_finished (map reopened states) ≡ count_by is_finished states
reopened-count states = count_by-map is_finished is_finished reopened states (λ state. grind arith)
