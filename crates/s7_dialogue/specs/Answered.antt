-- What the code's functions read as an answer.
use Rattle.std.specs.Prelude.{◌≡◌, Option, None, MatchOption}
use Rattle.s7_dialogue.specs.declared.answers.answer.Answer.{Answer}
use Rattle.s7_dialogue.specs.Question.{Question}
use Rattle.s7_dialogue.specs.Answer as spelled
use Rattle.s7_dialogue.specs.Told.{TellsSome}

-- the result is the answer to the question, and `None` exactly if there is none
abbrev pub IsTold : Question → Option Answer → Option spelled.Answer → Type 0
IsTold question result answer = MatchOption result (answer ≡ None) (λ told. TellsSome question told answer)
