-- What a seat of banks knows and has done, and what the results of banks say: those of a round, at the words of two
-- banks.
use Rattle.std.specs.Prelude.{ℕ, List}
use Rattle.gc_gates.specs.Layout.{two_banks}
use Rattle.gc_job.specs.Job.{JobParts}
use Rattle.gc_steps.specs.declared.answer.Answer.{Answer}
use Rattle.gc_steps.specs.Views as steps

abbrev pub Seen : Type 0
Seen = steps.Seen (List JobParts)

abbrev pub Ran : Seen → Seen → List (ℕ × ℕ) → ℕ → Type 0
Ran old new made most = steps.Ran old new made most

abbrev pub Stays : Seen → Seen → Type 0
Stays old new = steps.Stays old new

abbrev pub Got : JobParts → ℕ → ℕ → Seen → ℕ → Type 0
Got job r w new label = steps.Got job r w new label

abbrev pub Lacks : JobParts → ℕ → ℕ → Seen → Seen → Type 0
Lacks job r w old new = steps.Lacks two_banks job r w old new

abbrev pub Answers : JobParts → ℕ → ℕ → ℕ → Seen → Seen → Answer → Type 0
Answers job r g most old new answer = steps.Answers two_banks job r g most old new answer

abbrev pub AnswersTwo : JobParts → ℕ → ℕ → ℕ → ℕ → Seen → Seen → Answer × Answer → Type 0
AnswersTwo job r g h most old new answers =
    steps.AnswersTwo two_banks job r g h most old new answers

abbrev pub AnswersFour : JobParts → ℕ → ℕ → ℕ → ℕ → ℕ → ℕ → Seen → Seen
    → Answer × Answer × Answer × Answer → Type 0
AnswersFour job r a b c d most old new answers =
    steps.AnswersFour two_banks job r a b c d most old new answers

abbrev pub AnswersAlone : JobParts → ℕ → ℕ → Seen → Answer → Type 0
AnswersAlone job r g old answer = steps.AnswersAlone job r g old answer

abbrev pub AnswersTwoAlone : JobParts → ℕ → ℕ → ℕ → Seen → Answer × Answer → Type 0
AnswersTwoAlone job r g h old answers = steps.AnswersTwoAlone job r g h old answers
