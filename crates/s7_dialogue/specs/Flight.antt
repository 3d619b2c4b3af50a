-- The telegrams that were sent for a job, with their answers. Several may be unanswered. An answer has the sequence
-- of its telegram (Snap7 1.4 sources, s7_types.h: TS7ReqHeader), and the answers may come in any order. A job of
-- the server's has a sequence of the server's own.
use Rattle.std.specs.Prelude.{ℕ, ◌+◌, List, [], ◌∷◌, map, is_none, Option, None, Some, option_map, if◌then◌else◌}
use Rattle.s7_dialogue.specs.Question.{Question}
use Rattle.s7_dialogue.specs.Answer.{Answer, answer_of}

pub record Row : Type 0 where
  pub question : Question
  -- the sequence under which it was sent, or the last one before if it isn't numbered
  pub number : ℕ
  pub answer : Option Answer

-- the answers of the telegrams, in the order of these
abbrev pub answers_of : List Row → List (Option Answer)
answers_of rows = map (λ (row : Row). row.answer) rows

-- the number of unanswered telegrams
unfoldable pub open_count : List Row → ℕ
open_count [] = 0
open_count (row ∷ rows) = (if is_none row.answer then 1 else 0) + open_count rows

-- the answer that the message gives to the telegram; `None` if the telegram was answered before
abbrev pub answer_to : Row → List ℕ → Option Answer
answer_to row message = if is_none row.answer then answer_of row.question row.number message else None

abbrev pub filled_by : Row → List Row → Option Answer → Option (List Row) → Option (List Row)
filled_by row rows (Some answer) later = Some (record row { answer = Some answer } ∷ rows)
filled_by row rows None later = option_map (λ (others : List Row). row ∷ others) later

-- THE TELEGRAMS WITH A MESSAGE as the answer to the first unanswered one that it answers; `None` if it answers none
unfoldable pub filled : List Row → List ℕ → Option (List Row)
filled [] message = None
filled (row ∷ rows) message = filled_by row rows (answer_to row message) (filled rows message)
