-- Where a client stands between two messages of a job.
use Rattle.std.specs.Prelude.{◌≡◌, ℕ, ◌+◌, ◌<◌, ◌==◌, List, [], ◌∷◌, ◌++◌, length, Option, None, Some, if◌then◌else◌}
use Rattle.std.specs.List.{flat_map}
use Rattle.s7_tpkt.specs.Packets.{rest_of}
use Rattle.s7_wire.specs.Sent.{sent_message, sent_messages}
use Rattle.s7_dialogue.specs.Question.{Question, negotiates, question_octets, messages_of}
use Rattle.s7_dialogue.specs.Answer.{Answer}
use Rattle.s7_dialogue.specs.Flight.{Row, answers_of, open_count}
use Rattle.s7_dialogue.specs.Dialogue.{End, Conduct, first_refusal, asked_by}
use Rattle.s7_dialogue.specs.Course.{Origin, Awaits, for_confirm, for_answers, for_nothing, nothing_unfinished}
use Rattle.s7_dialogue.specs.Course.{connect_octets, conduct_of, next_question, course, limits}

-- ---- questions that are out

-- the octets of telegrams, in TPDUs of 1,024 octets
abbrev pub telegrams_of : List Row → List ℕ
telegrams_of rows = sent_messages 1024 (flat_map (λ (row : Row). messages_of row.number row.question) rows)

-- the conduct asks the question behind so many answers
pub record IsAsked (c : Conduct) (place : ℕ) (question : Question) : Type 0 where
  pub answers : List (Option Answer)
  pub long : length answers ≡ place
  pub asks : c.question_at answers ≡ Some question

-- the questions are those that the conduct asks from a place on, in order
abbrev pub AreAsked : Conduct → ℕ → List Row → Type 0
AreAsked c place [] = Unit {0}
AreAsked c place (row ∷ rows) = IsAsked c place row.question × AreAsked c (place + 1) rows

-- it was asked behind these answers, of which none refuses
pub record IsDue (c : Conduct) (answers : List (Option Answer)) (row : Row) : Type 0 where
  pub is : c.question_at answers ≡ Some row.question
  pub unrefused : first_refusal c.refusal 0 answers ≡ None

-- each of these was asked behind the answers to those before it, and none behind one that is unanswered
abbrev pub AreInTurn : Conduct → List Row → List Row → Type 0
AreInTurn c before [] = Unit {0}
AreInTurn c before (row ∷ rows) =
    IsDue c (answers_of before) row × (row.answer ≡ None → rows ≡ []) × AreInTurn c (before ++ row ∷ []) rows

-- what is awaited with these rows, where nothing more may be asked
abbrev pub awaits_with : Conduct → List Row → Awaits
awaits_with c rows = if open_count rows == 0 then for_nothing (c.ended (answers_of rows)) [] else for_answers

-- ---- places

-- The client stands between two messages: the packets that it used are whole, no message is unfinished, the TPDU size
-- is 1,024, and all that may be asked was asked.
pub record Awaiting (origin : Origin) (b : List ℕ) : Type 0 where
  pub rest : rest_of (limits origin) b ≡ []
  pub unfinished : (course origin b).unfinished ≡ nothing_unfinished
  pub size : (course origin b).size ≡ 1024
  pub sequence : (course origin b).sequence < 65536
  pub none_more : next_question (conduct_of origin) (course origin b).rows ≡ None
  pub awaits : (course origin b).awaits ≡ awaits_with (conduct_of origin) (course origin b).rows

-- A connect begins with its request, on a link that begins anew.
pub record BeginsConnecting (origin : Origin) : Type 0 where
  pub rest : rest_of (limits origin) [] ≡ []
  pub awaits : (course origin []).awaits ≡ for_confirm
  pub rows : (course origin []).rows ≡ []
  pub unfinished : (course origin []).unfinished ≡ nothing_unfinished
  pub sequence : (course origin []).sequence ≡ 0
  pub out : (course origin []).out ≡ connect_octets origin.config

-- the negotiation, the first question on its link
abbrev pub negotiation_row : Origin → Row
negotiation_row origin = record { question = negotiates (asked_by origin.config); number = 1; answer = None }

-- With the confirm the negotiation is asked.
pub record AsksNegotiation (origin : Origin) (b : List ℕ) : Type 0 where
  pub awaiting : Awaiting origin b
  pub awaits : (course origin b).awaits ≡ for_answers
  pub rows : (course origin b).rows ≡ negotiation_row origin ∷ []
  pub out : (course origin b).out
      ≡ connect_octets origin.config ++ sent_message 1024 (question_octets 1 (negotiates (asked_by origin.config)))

-- Octets that were used ended the job.
pub record EndsBy (origin : Origin) (b used : List ℕ) (end : End) : Type 0 where
  pub awaits : (course origin (b ++ used)).awaits ≡ for_nothing end []
  pub out : (course origin (b ++ used)).out ≡ (course origin b).out
  pub size : (course origin (b ++ used)).size ≡ 1024
  pub sequence : (course origin (b ++ used)).sequence < 65536
