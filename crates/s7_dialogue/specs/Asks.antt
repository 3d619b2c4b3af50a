-- How the questions of a job relate to the telegrams that were sent for it.
use Rattle.std.specs.Prelude.{◌≡◌, ℕ, ◌+◌, ◌<◌, min, List, [], ◌∷◌, ◌++◌, map, length, drop, nat_lt, if◌then◌else◌, Option, None, Some}
use Rattle.std.specs.List.{AllByRecursion}
use Rattle.s7_item.specs.declared.item.Item.{Item}
use Rattle.s7_dialogue.specs.declared.config.Config.{Config}
use Rattle.s7_dialogue.specs.declared.job.Job.{Job}
use Rattle.s7_dialogue.specs.declared.answers.answer.Asked.{Asked}
use Rattle.s7_dialogue.specs.declared.answers.answer.Asked.TheVariants as asked
use Rattle.s7_dialogue.specs.declared.answers.answer.Answer as kept
use Rattle.s7_dialogue.specs.declared.stages.flight.Flight.{Flight}
use Rattle.s7_dialogue.specs.declared.questions.left.Left.{Left}
use Rattle.s7_dialogue.specs.declared.questions.left.Left.TheVariants as left
use Rattle.s7_dialogue.specs.declared.stages.asking.Asking.{Asking}
use Rattle.s7_dialogue.specs.declared.stages.asking.Refused.{Refused}
use Rattle.s7_dialogue.specs.Question.{Question, negotiates, reads, writes}
use Rattle.s7_dialogue.specs.Answer.{Answer, answer_of}
use Rattle.s7_dialogue.specs.Told.{IsAsked, TellsSome}
use Rattle.s7_dialogue.specs.Flight.{Row}
use Rattle.s7_dialogue.specs.Checks.{octet_count_of}
use Rattle.s7_dialogue.specs.Left.{groups_in, questions_left, items_asked, TakesNext}
use Rattle.s7_dialogue.specs.Dialogue.{asked_by, read_questions, write_questions}
use Rattle.s7_dialogue.specs.Stages.{octets_of, question_of}

-- what the code keeps of a question that may be in flight beside others: its kind and its items
abbrev pub asked_of : Question → Asked
asked_of (reads items) = asked.Read items
asked_of (writes items octets) = asked.Write items
asked_of _ = asked.Negotiation

abbrev pub items_of : Question → List Item
items_of question = items_asked (asked_of question)

-- ---- the position of a question among those of its job

-- the index of a question, the offset of its first octet, and the index of its first item
pub record Spot : Type 0 where
  pub place : ℕ
  pub from : ℕ
  pub item : ℕ

abbrev pub first_spot : Spot
first_spot = record { place = 0; from = 0; item = 0 }

-- the position after a question for these items
abbrev pub spot_past : Spot → List Item → Spot
spot_past spot items = record {
  place = spot.place + 1;
  from = spot.from + octet_count_of items;
  item = spot.item + length items;
}

abbrev pub spot_behind : Spot → List Row → Spot
spot_behind spot [] = spot
spot_behind spot (row ∷ rows) = spot_behind (spot_past spot (items_of row.question)) rows

-- the position of the next question
abbrev pub spot_of : Asking → Spot
spot_of a = record { place = a.place; from = a.from; item = a.item }

-- ---- telegrams in flight

-- what the code keeps of a telegram
abbrev pub flight_at : Spot → Row → Flight
flight_at spot row = record {
  asked = asked_of row.question;
  sequence = row.number;
  place = spot.place;
  from = spot.from;
  item = spot.item;
}

abbrev pub if_open : Option Answer → Flight → List Flight → List Flight
if_open None flight flights = flight ∷ flights
if_open (Some answer) flight flights = flights

-- what the code keeps of the unanswered telegrams
abbrev pub flights_of : Spot → List Row → List Flight
flights_of spot [] = []
flights_of spot (row ∷ rows) =
    if_open row.answer (flight_at spot row) (flights_of (spot_past spot (items_of row.question)) rows)

-- each question can be recovered from what the code keeps of it
abbrev pub AreMadeAgain : Config → Job → Spot → List Row → Type 0
AreMadeAgain config job spot [] = Unit {0}
AreMadeAgain config job spot (row ∷ rows) =
    (question_of config job spot.from (asked_of row.question) ≡ row.question)
    × AreMadeAgain config job (spot_past spot (items_of row.question)) rows

-- the questions left to ask; in a write their octets begin at offset `from`
abbrev pub questions_behind : Config → Job → ℕ → Left → List Question
questions_behind config job from left.Nothing = []
questions_behind config job from left.Negotiation = negotiates (asked_by config) ∷ []
questions_behind config job from (left.Reads grouped) = read_questions (groups_in grouped)
questions_behind config job from (left.Writes grouped) =
    write_questions (groups_in grouped) (drop from (octets_of job))

-- The first of these questions were sent in these telegrams, and the others are left to ask.
pub record Asks (config : Config) (job : Job) (questions : List Question) (rows : List Row) (a : Asking) : Type 0
  where
    pub whole : questions ≡ map (λ (row : Row). row.question) rows ++ questions_behind config job a.from a.left
    pub again : AreMadeAgain config job first_spot rows
    pub flights : a.flights.items ≡ flights_of first_spot rows
    pub spot : spot_of a ≡ spot_behind first_spot rows

-- ---- steps of the code

-- nothing was asked yet
pub record IsNew (a : Asking) (most : ℕ) (questions : Left) : Type 0 where
  pub width : a.width ≡ most
  pub flights : a.flights.items ≡ []
  pub unput : a.unput ≡ 0
  pub left : a.left ≡ questions
  pub spot : spot_of a ≡ first_spot
  pub refused : a.refused ≡ None

-- a question is asked under this sequence
pub record Pushes (before : Asking) (told : Asked) (number : ℕ) (after : Asking) : Type 0 where
  pub flights : after.flights.items
      ≡ before.flights.items
      ++ record { asked = told; sequence = number; place = before.place; from = before.from; item = before.item } ∷ []
  pub unput : after.unput ≡ before.unput + 1
  pub spot : spot_of after ≡ spot_past (spot_of before) (items_asked told)
  pub width : after.width ≡ before.width
  pub refused : after.refused ≡ before.refused

-- the question asked is the next one, and it may be asked now
pub record AsksNext (before : Asking) (number : ℕ) (after : Asking) : Type 0 where
  pub told : Asked
  pub pushes : Pushes before told number after
  pub next : TakesNext before.left told after.left
  pub unrefused : before.refused ≡ None
  pub fewer : length before.flights.items < before.width

-- no question may be asked now
abbrev pub MayAskNone : Asking → Type 0
MayAskNone a = a.refused ≡ None → length a.flights.items < a.width → questions_left a.left ≡ 0

-- what is left to ask stays the same
pub record IsSameToAsk (before after : Asking) : Type 0 where
  pub width : after.width ≡ before.width
  pub left : after.left ≡ before.left
  pub spot : spot_of after ≡ spot_of before

-- the message doesn't answer the telegram
abbrev pub IsSilent : List ℕ → Flight → Type 0
IsSilent message flight =
    (question : Question) → IsAsked flight.asked question → answer_of question flight.sequence message ≡ None

-- The first telegram that the message answers is removed, and its answer is returned.
pub record TakesFirst (message : List ℕ) (before after : Asking) (flight : Flight) (told : kept.Answer) : Type 0 where
  pub front : List Flight
  pub back : List Flight
  pub out : before.flights.items ≡ front ++ flight ∷ back
  pub rest : after.flights.items ≡ front ++ back
  pub first : AllByRecursion (IsSilent message) front
  pub answers : (question : Question) → IsAsked flight.asked question
      → TellsSome question told (answer_of question flight.sequence message)
  pub unput : after.unput ≡ min before.unput (length after.flights.items)
  pub same : IsSameToAsk before after
  pub refused : after.refused ≡ before.refused

-- ---- refusals

abbrev pub refused_at : Option Refused → Option (ℕ × ℕ)
refused_at None = None
refused_at (Some refused) = Some (refused.place, refused.number)

-- the one of two refusals, an earlier one and this one, whose question comes first
abbrev pub earlier : Option (ℕ × ℕ) → ℕ → ℕ → Option (ℕ × ℕ)
earlier None place number = Some (place, number)
earlier (Some before) place number = if nat_lt place before.0 then Some (place, number) else Some before

pub record Refuses (before : Asking) (place number : ℕ) (after : Asking) : Type 0 where
  pub refused : refused_at after.refused ≡ earlier (refused_at before.refused) place number
  pub flights : after.flights.items ≡ before.flights.items
  pub unput : after.unput ≡ before.unput
  pub same : IsSameToAsk before after
