-- Calls one after another, inside a round.
use Rattle.gc_steps.proofs.Names.{◌≡◌, ◌≢◌, ℕ, ◌+◌, ◌*◌, ◌<◌, ◌≤◌, List, [], ◌∷◌, ◌++◌, refl, ap, ◌∙◌, arith, rules, append_assoc, length-append, sym, inl, IsLawful, input_wires, only, total-append, Key, is_pair, pairs, IsGatePlace, JobParts, labels_of, input_not_set, made_now, made_after, IsAlone, ReadsMade, AnswersAlone, sighting, sightings, Seen, Ran, Got, Lacks, Says, Answers, AnswersTwo, AnswersFour, IsMadeNow, after_taken, active, set_of}
use Rattle.atomic_table.specs.Seated.{TableId}
use Rattle.atomic_table.specs.declared.shared.Seat.{Seat}
use Rattle.gc_workers.specs.declared.states.TheConstants.{DONE, IN_HAND}
use Rattle.gc_rounds.specs.Words.{stamp}
use Rattle.gc_rounds.specs.Places.{IsSamePlace}
use Rattle.gc_rounds.specs.declared.view.Step.{Step}
use Rattle.gc_rounds.specs.declared.view.Step.TheVariants.{Store, Claim}
use Rattle.gc_gates.specs.Layout.{Layout}
use Rattle.gc_gates.specs.Steps.{after_stored, after_done}
use Rattle.gc_gates.proofs.PairLemmas.{pair_same}
use Rattle.std.proofs.lemmas.Bool.Decides.{nat_tests}
use Rattle.gc_gates.specs.declared.view.Hand.TheVariants.{Empty}
use Rattle.gc_steps.specs.declared.answer.Answer.{Answer}
use Rattle.gc_steps.specs.declared.answer.Answer.TheVariants.{Made, Done, Taken, NotYet}
use Rattle.gc_steps.proofs.LabelLemmas.{active_solves}

-- What was known is known, and what was sighted is.
pub record Grown {J : Type 0} (old new : Seen J) : Type 0 where
  pub known : (r g : ℕ) → pairs r g old.inner.known ≤ pairs r g new.inner.known
  pub sighted : (word found : ℕ) → sightings word found old.steps ≤ sightings word found new.steps

pub still : {J : Type 0} {a : Seen J} → Grown a a
still = record { known = λ r g. omega arith; sighted = λ word found. omega arith }

pub grown : {J : Type 0} {a b : Seen J} {list : List (ℕ × ℕ)} {m : ℕ} → Ran a b list m → Grown a b
grown {a = a} p = record {
  known = p.known;
  sighted = λ word found. let all = total-append (sighting word found) a.steps p.added in
      omega (arith, ap (sightings word found) p.steps);
}

pub ran_then : {J : Type 0} {a b c : Seen J} {first list : List (ℕ × ℕ)} {m n : ℕ} → Ran a b first m
    → Ran b c list n → Ran a c list (m + n)
ran_then {a = a} p q = record {
  jobs = q.jobs ∙ p.jobs;
  all = q.all ∙ p.all;
  seats = q.seats ∙ p.seats;
  position = q.position ∙ p.position;
  about = q.about ∙ p.about;
  hand = q.hand ∙ p.hand;
  made = q.made;
  known = λ r g. omega (arith, p.known r g, q.known r g);
  looks = λ r g w. omega (arith, p.looks r g w, q.looks r g w);
  added = p.added ++ q.added;
  short = omega (arith, length-append p.added q.added);
  steps = q.steps ∙ ap (λ l. l ++ q.added) p.steps ∙ append_assoc a.steps p.added q.added;
}

pub longer : {J : Type 0} {a b : Seen J} {list : List (ℕ × ℕ)} {m n : ℕ} → m ≤ n → Ran a b list m
    → Ran a b list n
longer le p = search (rules, p)

-- a load or a claim sights what it finds
pub saw_step : (steps : List Step) (s : Step) (word found : ℕ)
    → sighting word found s ≡ only word word * only found found
    → sightings word found steps < sightings word found (steps ++ s ∷ [])
saw_step steps s word found is =
    rw (total-append (sighting word found) steps (s ∷ []), is) (grind (arith, nat_tests))

-- what is not found done was not known
pub unknown : (n found two : ℕ) → (0 < n → found ≡ two) → found ≢ two → n ≡ 0
unknown n found two known ne = grind arith

-- What is said of a call is said of a longer one, which has it as a part.
pub lacks_within : {J : Type 0} {lay : Layout} {a b c d : Seen J} {job : JobParts} {r w : ℕ}
    → Grown a b → Grown c d → Lacks lay job r w b c → Lacks lay job r w a d
lacks_within {lay = lay} {r = r} p q l = record {
  no_input = l.no_input;
  unknown = λ h set. let t = l.unknown h set in let found = t.1.0 in
      let before = p.sighted (lay.at r h) found in let after = q.sighted (lay.at r h) found in
      (omega (arith, p.known r h, t.0), (found, t.1.1, omega (arith, t.1.2)));
}

pub says_within : {J : Type 0} {a b c d : Seen J} (lay : Layout) (job : JobParts) (r g : ℕ)
    (answer : Answer) → Grown a b → Grown c d → Says lay job r g b c answer
    → Says lay job r g a d answer
says_within lay job r g (Made label) p q h =
    (h.0, omega (arith, q.known r g), omega (arith, p.known r g))
says_within lay job r g (Done label) p q h = (h.0, omega (arith, q.known r g))
says_within lay job r g Taken p q h = let word = lay.at r g in let held = stamp r IN_HAND in
    (omega (arith, p.known r g), omega (arith, p.sighted word held, q.sighted word held))
says_within lay job r g (NotYet w) p q h = (omega (arith, p.known r g), h.1, lacks_within p q h.2)

-- a result that is not Made leaves the made list
pub unmade : (r g : ℕ) (l : List (ℕ × ℕ)) (answer : Answer) → made_now answer ≡ 0
    → made_after r g l answer ≡ l
unmade r g l (Made label) e = absurd (omega arith)
unmade r g l (Done label) e = refl
unmade r g l Taken e = refl
unmade r g l (NotYet w) e = refl

-- a result for another gate leaves how often a gate is in the made list
pub made_apart : (r g h : ℕ) (l : List (ℕ × ℕ)) (answer : Answer) → h ≢ g
    → pairs r h (made_after r g l answer) ≡ pairs r h l
made_apart r g h l (Made label) apart =
    rw (total-append (is_pair r h) l ((r, g) ∷ [])) (grind (arith, nat_tests))
made_apart r g h l (Done label) apart = refl
made_apart r g h l Taken apart = refl
made_apart r g h l (NotYet w) apart = refl

module _ {J : Type 0} (lay : Layout) (job : JobParts) (r : ℕ) where
  -- a result after steps that made nothing
  pub answers_later : {a b c : Seen J} {m n : ℕ} (g : ℕ) (x : Answer) → Ran a b a.inner.made m
      → Answers lay job r g n b c x → Answers lay job r g (m + n) a c x
  answers_later g x p h =
      (says_within lay job r g x (grown p) still h.0, rw p.made at (ran_then p h.1))

  -- two results, of which the second call began where the first ended
  pub two_made : {a b c : Seen J} {m n : ℕ} (g h : ℕ) (x y : Answer) → Answers lay job r g m a b x
      → Answers lay job r h n b c y → AnswersTwo lay job r g h (m + n) a c (x, y)
  two_made g h x y p q = (
    says_within lay job r g x still (grown q.1) p.0,
    says_within lay job r h y (grown p.1) still q.0,
    rw p.1.made at (ran_then p.1 q.1),
  )

  -- four results of one call: two, and then two,
  pub four_made : {u v w : Seen J} {m n most : ℕ} (a b c d : ℕ) (x y : Answer × Answer)
      → m + n ≤ most → AnswersTwo lay job r a b m u v x → AnswersTwo lay job r c d n v w y
      → AnswersFour lay job r a b c d most u w (x.0, x.1, y.0, y.1)
  four_made a b c d x y le p q = (
    says_within lay job r a x.0 still (grown q.2) p.0,
    says_within lay job r b x.1 still (grown q.2) p.1,
    says_within lay job r c y.0 (grown p.2) still q.0,
    says_within lay job r d y.1 (grown p.2) still q.1,
    longer le (rw p.2.made at (ran_then p.2 q.2)),
  )

  -- and all after steps that made nothing
  pub four_later : {u v w : Seen J} {m n most : ℕ} (a b c d : ℕ)
      (all : Answer × Answer × Answer × Answer) → m + n ≤ most → Ran u v u.inner.made m
      → AnswersFour lay job r a b c d n v w all → AnswersFour lay job r a b c d most u w all
  four_later a b c d all le p q = (
    says_within lay job r a all.0 (grown p) still q.0,
    says_within lay job r b all.1 (grown p) still q.1,
    says_within lay job r c all.2 (grown p) still q.2,
    says_within lay job r d all.3 (grown p) still q.3,
    longer le (rw p.made at (ran_then p q.4)),
  )

  -- Of two gates that were looked at, both were ready, one was, or none.
  module _ {a b c : Seen J} (g h : ℕ) (x y : Answer) (p : Ran a b a.inner.made 7)
      (q : Ran b c b.inner.made 7) where
    both : Ran a c a.inner.made 14
    both = rw p.made at (ran_then p q)

    pub both_ready : (d : Seen J) → AnswersTwo lay job r g h 8 c d (x, y)
        → AnswersTwo lay job r g h 22 a d (x, y)
    both_ready d t = (
      says_within lay job r g x (grown both) still t.0,
      says_within lay job r h y (grown both) still t.1,
      rw both.made at (ran_then both t.2),
    )

    pub first_ready : (d : Seen J) → Answers lay job r g 4 c d x
        → (made_now y ≡ 0) × Says lay job r h b c y → AnswersTwo lay job r g h 22 a d (x, y)
    first_ready d s e = (
      says_within lay job r g x (grown both) still s.0,
      says_within lay job r h y (grown p) (grown s.1) e.1,
      rw (unmade r h (made_after r g a.inner.made x) y e.0)
          (longer (omega arith) (rw both.made at (ran_then both s.1))),
    )

    pub second_ready : (d : Seen J) → (made_now x ≡ 0) × Says lay job r g a b x
        → Answers lay job r h 4 c d y → AnswersTwo lay job r g h 22 a d (x, y)
    second_ready d e t = (
      says_within lay job r g x still (grown (ran_then q t.1)) e.1,
      says_within lay job r h y (grown both) still t.0,
      rw (unmade r g a.inner.made x e.0)
          (longer (omega arith) (rw both.made at (ran_then both t.1))),
    )

    pub none_ready : (made_now x ≡ 0) × Says lay job r g a b x
        → (made_now y ≡ 0) × Says lay job r h b c y → AnswersTwo lay job r g h 22 a c (x, y)
    none_ready e f = (
      says_within lay job r g x still (grown q) e.1,
      says_within lay job r h y (grown p) still f.1,
      rw (unmade r h (made_after r g a.inner.made x) y f.0, unmade r g a.inner.made x e.0)
          (longer (omega arith) both),
    )

pub got_input : {J : Type 0} {job : JobParts} {r w label : ℕ} {v : Seen J} → IsLawful job.circuit
    → w < input_wires job.circuit → label ≡ labels_of job.inputs w → Got job r w v label
got_input {job = job} {w = w} lawful input is = record {
  set = inl input;
  right = is ∙ sym ((active_solves job lawful).inputs w input);
  known = λ h set. absurd (input_not_set job.circuit w h lawful input set);
}

-- a seat that moved is still one of the table
pub still_in : {J S : Type 0} {gates : J → ℕ} {lay : Layout} {table : TableId} {key : Key J}
    {old new : Seat S (Seen J)} → IsGatePlace lay gates table key old → IsSamePlace old new
    → new.me.0.jobs ≡ old.me.0.jobs → new.me.0.all ≡ old.me.0.all
    → new.me.0.inner.job ≡ old.me.0.inner.job → IsGatePlace lay gates table key new
still_in p same jobs all about = record {
  words = p.words;
  slots = p.slots;
  table_id = same.table_id ∙ p.table_id;
  jobs = jobs ∙ p.jobs;
  whole = all ∙ p.whole;
  about = about ∙ p.about;
}

-- banks with one seat
pub alone_later : {J : Type 0} {a b : Seen J} {list : List (ℕ × ℕ)} {m : ℕ} → Ran a b list m
    → IsAlone a → IsAlone b
alone_later p alone = p.seats ∙ alone ∙ sym p.all

pub alone_made : {J : Type 0} (job : JobParts) (r g : ℕ) (a : Seen J) (x : Answer) → IsMadeNow x
    → (pairs r g a.inner.made ≡ 0) × ReadsMade job r g a → AnswersAlone job r g a x
alone_made job r g a (Made label) now is = is
alone_made job r g a (Done label) now is = absurd now
alone_made job r g a Taken now is = now
alone_made job r g a (NotYet w) now is = absurd now

-- A gate that wasn't known is taken in hand, and its right label published: four steps.
pub made_answer : {J : Type 0} {a b c : Seen J} {label : ℕ} (free i low j high : ℕ) (lay : Layout)
    (job : JobParts) (r g : ℕ) → a.inner.hand ≡ Empty
    → (b ≡ after_taken lay a r g free) × (pairs r g a.inner.known ≡ 0)
    → c ≡ after_done lay (after_stored (after_stored b r g 1 i low) r g 2 j high) r g
    → label ≡ active job (set_of job g) → Answers lay job r g 4 a c (Made label)
made_answer free i low j high lay job r g empty taken put right = rw (put, taken.0) (
  (right, omega (arith, pair_same r g), taken.1),
  record {
    jobs = refl;
    all = refl;
    seats = refl;
    position = refl;
    about = refl;
    hand = sym empty;
    made = refl;
    known = λ k h. omega arith;
    looks = λ k h n. omega arith;
    added = Claim (lay.at r g) free ∷ Store i low ∷ Store j high
        ∷ Store (lay.at r g) (stamp r DONE) ∷ [];
    short = omega arith;
    steps = simp append_assoc;
  },
)
