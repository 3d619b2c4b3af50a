-- What the code keeps of a question, and what its values say of an answer.
use Rattle.std.specs.Prelude.{◌≡◌, ℕ, length, List, Option, None, Some}
use Rattle.s7_header.specs.declared.negotiation.Negotiation.{Negotiation}
use Rattle.s7_dialogue.specs.declared.answers.answer.Asked.{Asked}
use Rattle.s7_dialogue.specs.declared.answers.answer.Asked.TheVariants as asked
use Rattle.s7_dialogue.specs.declared.answers.answer.Answer.{Answer}
use Rattle.s7_dialogue.specs.declared.answers.answer.Answer.TheVariants as told
use Rattle.s7_dialogue.specs.Question.{Question, negotiates, reads, writes}
use Rattle.s7_dialogue.specs.Answer as spelled
use Rattle.s7_dialogue.specs.DataItems.{answers_in}

-- the question has the kind that is kept, and the same items
abbrev pub IsAsked : Asked → Question → Type 0
IsAsked asked.Negotiation (negotiates n) = Unit {0}
IsAsked (asked.Read kept) (reads items) = items ≡ kept
IsAsked (asked.Write kept) (writes items octets) = items ≡ kept
IsAsked _ _ = ⊥

-- the answers for these items, as the data of a read's answer give them
abbrev pub TellsItems : Question → List spelled.ItemAnswer → spelled.Answer → Type 0
TellsItems (reads items) answers answer =
    (body : List ℕ) × (spelled.item_answers items body ≡ Some answers) × (answer ≡ spelled.tells answers)
TellsItems _ answers answer = ⊥

abbrev pub TellsCodes : Question → List ℕ → spelled.Answer → Type 0
TellsCodes (writes items octets) body answer = (answer ≡ spelled.notes body) × (length body ≡ length items)
TellsCodes _ body answer = ⊥

abbrev pub TellsGrant : Question → Negotiation → spelled.Answer → Type 0
TellsGrant (negotiates asked) n answer = answer ≡ spelled.grants n
TellsGrant _ n answer = ⊥

-- what the code's value says of the answer to a question
abbrev pub Tells : Question → Answer → spelled.Answer → Type 0
Tells question (told.Refused error) answer = answer ≡ spelled.refuses error
Tells question (told.Granted n) answer = TellsGrant question n answer
Tells question (told.Items answers) answer = TellsItems question (answers_in answers.items) answer
Tells question (told.Codes body) answer = TellsCodes question body.now answer

abbrev pub TellsSome : Question → Answer → Option spelled.Answer → Type 0
TellsSome question told None = ⊥
TellsSome question told (Some answer) = Tells question told answer
