-- What a seat of a board knows and has done, and what the results of a board say: those of round 0, at the words of one
-- board.
use Rattle.std.specs.Prelude.{ℕ, List}
use Rattle.gc_gates.specs.Layout.{one_round}
use Rattle.gc_gates.specs.Pairs.{pairs}
use Rattle.gc_job.specs.Job.{JobParts}
use Rattle.gc_steps.specs.declared.answer.Answer.{Answer}
use Rattle.gc_steps.specs.Views as steps

abbrev pub Seen : Type 0
Seen = steps.Seen JobParts

-- how often gate g is in a list of rounds and gates
abbrev pub occurrences : ℕ → List (ℕ × ℕ) → ℕ
occurrences g l = pairs 0 g l

abbrev pub Ran : Seen → Seen → List (ℕ × ℕ) → ℕ → Type 0
Ran old new made most = steps.Ran old new made most

abbrev pub Got : JobParts → ℕ → Seen → ℕ → Type 0
Got job w new label = steps.Got job 0 w new label

abbrev pub Lacks : JobParts → ℕ → Seen → Seen → Type 0
Lacks job w old new = steps.Lacks one_round job 0 w old new

abbrev pub Answers : JobParts → ℕ → ℕ → Seen → Seen → Answer → Type 0
Answers job g most old new answer = steps.Answers one_round job 0 g most old new answer

abbrev pub AnswersTwo : JobParts → ℕ → ℕ → ℕ → Seen → Seen → Answer × Answer → Type 0
AnswersTwo job g h most old new answers = steps.AnswersTwo one_round job 0 g h most old new answers

abbrev pub AnswersFour : JobParts → ℕ → ℕ → ℕ → ℕ → ℕ → Seen → Seen
    → Answer × Answer × Answer × Answer → Type 0
AnswersFour job a b c d most old new answers =
    steps.AnswersFour one_round job 0 a b c d most old new answers

abbrev pub AnswersAlone : JobParts → ℕ → Seen → Answer → Type 0
AnswersAlone job g old answer = steps.AnswersAlone job 0 g old answer

abbrev pub AnswersTwoAlone : JobParts → ℕ → ℕ → Seen → Answer × Answer → Type 0
AnswersTwoAlone job g h old answers = steps.AnswersTwoAlone job 0 g h old answers
