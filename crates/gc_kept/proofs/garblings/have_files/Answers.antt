use Rattle.gc_kept.proofs.Names.{All-map, Bool, List, map, get_or, ◌≡◌, ◌↔◌, IsTrue, refl, rules, All, GarblingWith}
use Rattle.gc_kept.proofs.GarblingsLemmas.{one_of}
use Rattle.gc_kept.proofs.garblings.have_files.Goals as goal

-- A test of all garblings is one of what each is.
all_are : {X : Type 0} (of : X → GarblingWith) (xs : List X) (P : GarblingWith → Type 0) (b : Bool)
    → (IsTrue b ↔ All (λ x. P (of x)) xs) → IsTrue b ↔ All P (map of xs)
all_are of xs P b is = (
  λ yes. All-map P of xs (is.0 yes),
  λ all. is.1 (λ i d within. one_of of xs i d (get_or xs i d) within refl P all),
)

pub returns-then-not-all-clause-fault : goal.returns-then-not-all-clause-fault
returns-then-not-all-clause-fault c = λ are.
    let gs = c.args.garblings.now in
    let yes = (all_are (λ g. g.now) gs (λ g. g.first ≡ 0) c.all.result (search rules)).1 are in
    absurd (cc)

pub returns-then-not-all-2-clause-fault : goal.returns-then-not-all-2-clause-fault
returns-then-not-all-2-clause-fault c =
    let gs = c.args.garblings.now in
    let numbers = all_are (λ g. g.now) gs (λ g. g.first ≡ 0) c.all.result (search rules) in
    let digests = all_are (λ g. g.now) gs (λ g. IsTrue g.has_digest) c.all-2.result
    (search rules) in
    (numbers.0 (rw c.if-not-all.false refl), λ have. let yes = digests.1 have in absurd (cc))

pub returns-clause-numbers : goal.returns-clause-numbers
returns-clause-numbers c =
    (all_are (λ g. g.now) c.args.garblings.now (λ g. g.first ≡ 0) c.all.result (search rules)).0
    (rw c.if-not-all.false refl)

pub returns-clause-digests : goal.returns-clause-digests
returns-clause-digests c =
    (all_are (λ g. g.now) c.args.garblings.now (λ g. IsTrue g.has_digest) c.all-2.result
    (search rules)).0
    (rw c.if-not-all-2.false refl)
