-- The greatest length and number of telegrams, and what keeps a further one back.
use Rattle.std.specs.Prelude.{◌≡◌, ◌≢◌, ◌⊎◌, ℕ, ◌<◌, ◌≤◌, max, Option, None, Some, List, length}
use Rattle.std.specs.List.{AllByRecursion}
use Rattle.s7_dialogue.specs.declared.config.Config.{Config}
use Rattle.s7_dialogue.specs.declared.grant.Grant.{Grant}
use Rattle.s7_dialogue.specs.declared.job.Job.{Job}
use Rattle.s7_dialogue.specs.Question.{Question, messages_of}
use Rattle.s7_dialogue.specs.Answer.{Answer}
use Rattle.s7_dialogue.specs.Flight.{Row, answers_of, open_count}
use Rattle.s7_dialogue.specs.Dialogue.{Conduct, first_refusal, plan_of}
use Rattle.s7_dialogue.specs.Course.{Origin, for_answers, conduct_of, course}

-- On a connected client no message of a job exceeds the PDU that was granted, and the number of unanswered questions
-- never exceeds the number of jobs granted, or one if that is 0.
pub record TelegramsFit : Type 0 where
  -- each message of a question is short enough, whatever was answered so far
  pub fits : (asked : Job) (config : Config) (granted : Grant) (answers : List (Option Answer)) (question : Question)
      (sequence : ℕ) → 64 ≤ granted.pdu
      → (plan_of asked config (Some granted)).conduct.question_at answers ≡ Some question
      → AllByRecursion (λ (message : List ℕ). length message ≤ granted.pdu) (messages_of sequence question)
  pub few : (origin : Origin) (granted : Grant) (b : List ℕ) → origin.granted ≡ Some granted
      → open_count (course origin b).rows ≤ max 1 granted.jobs

-- no further question is asked: the greatest number that is allowed is unanswered, or an answer refuses, or no question
-- is left
abbrev pub IsNoneAsked : Conduct → List Row → Type 0
IsNoneAsked c rows =
    (c.width ≤ open_count rows) ⊎ (first_refusal c.refusal 0 (answers_of rows) ≢ None)
    ⊎ (c.question_at (answers_of rows) ≡ None)

-- JOBS ASK ALL THAT THEY MAY: while a job awaits answers, a question is unanswered, and no further one may be asked.
abbrev pub JobsAskAll : Type 0
JobsAskAll =
    (origin : Origin) (b : List ℕ) → (course origin b).awaits ≡ for_answers
    → (0 < open_count (course origin b).rows) × IsNoneAsked (conduct_of origin) (course origin b).rows
