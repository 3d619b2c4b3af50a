-- Lemmas on the messages that go out for questions: how many they are, and under which sequence.
use Rattle.std.proofs.Common.{◌≡◌, ℕ, ◌-◌, ◌<◌, ◌≤◌, true, cond, Option, Some, None, List, [], ◌∷◌, length, drop, refl, ap, arith}
use Rattle.std.specs.List.{AllByRecursion}
use Rattle.s7_item.specs.declared.item.Item.{Item}
use Rattle.s7_dialogue.specs.declared.config.Config.{Config}
use Rattle.s7_dialogue.specs.declared.job.Job.{Job}
use Rattle.s7_dialogue.specs.declared.answers.answer.Asked.{Asked}
use Rattle.s7_dialogue.specs.declared.answers.answer.Asked.TheVariants as asked
use Rattle.s7_dialogue.specs.declared.stages.single.Ask.{Ask}
use Rattle.s7_dialogue.specs.declared.stages.single.Ask.TheVariants as ask
use Rattle.s7_dialogue.specs.Question.{Question, awaits_call, inserts, is_numbered, question_octets, closing_octets, messages_of}
use Rattle.s7_dialogue.specs.DataPlaces.{part_at, question_for}
use Rattle.s7_dialogue.specs.Course.{next_sequence, sequence_behind}
use Rattle.s7_dialogue.specs.Stages.{question_of, question_of_single}
use Rattle.s7_dialogue.specs.Singles.{message_count, is_numbered_ask}

-- what holds of the message of a question, and of the answer that closes a download, holds of all messages
pub each_message : (P : List ℕ → Type 0) (question : Question) (sequence : ℕ)
    → ((call : ℕ) → P (closing_octets call)) → P (question_octets sequence question)
    → AllByRecursion P (messages_of sequence question)
each_message P (awaits_call image) sequence closing own = tt
each_message P (inserts image call) sequence closing own = (closing call, (own, tt))
each_message P _ sequence closing own = (own, tt)

-- ---- negotiations, reads and writes: one message, under the next sequence

pub listed_behind : (config : Config) (job : Job) (from sequence : ℕ) (told : Asked)
    → sequence_behind sequence (question_of config job from told) ≡ next_sequence sequence
listed_behind config job from sequence asked.Negotiation = refl
listed_behind config job from sequence (asked.Read items) = refl
listed_behind config job from sequence (asked.Write items) = refl

pub listed_message : (config : Config) (job : Job) (from sequence : ℕ) (told : Asked)
    → messages_of sequence (question_of config job from told)
    ≡ question_octets sequence (question_of config job from told) ∷ []
listed_message config job from sequence asked.Negotiation = refl
listed_message config job from sequence (asked.Read items) = refl
listed_message config job from sequence (asked.Write items) = refl

-- ---- what is asked alone

-- the read or the write of a part
part_numbered : (value : Option ℕ) (item : Item) → is_numbered (question_for value item) ≡ true
part_numbered None item = refl
part_numbered (Some value) item = refl

part_message : (value : Option ℕ) (item : Item) (sequence : ℕ)
    → messages_of sequence (question_for value item) ≡ question_octets sequence (question_for value item) ∷ []
part_message None item sequence = refl
part_message (Some value) item sequence = refl

pub numbered_ask : (done : Job) (asked : Ask) (so_far : List ℕ)
    → is_numbered (question_of_single done asked so_far) ≡ is_numbered_ask asked
numbered_ask done (ask.Part block place) so_far = part_numbered block.value (part_at block place)
numbered_ask done _ so_far = refl

pub single_behind : (done : Job) (asked : Ask) (so_far : List ℕ) (sequence : ℕ)
    → sequence_behind sequence (question_of_single done asked so_far)
    ≡ cond (is_numbered_ask asked) (next_sequence sequence) sequence
single_behind done asked so_far sequence =
    ap (λ b. cond b (next_sequence sequence) sequence) (numbered_ask done asked so_far)

pub count_asked : (done : Job) (asked : Ask) (so_far : List ℕ) (sequence : ℕ)
    → length (messages_of sequence (question_of_single done asked so_far)) ≡ message_count asked
count_asked done (ask.Part block place) so_far sequence =
    ap length (part_message block.value (part_at block place) sequence)
count_asked done _ so_far sequence = refl

-- they are the same whatever came before
pub same_messages : (done : Job) (asked : Ask) (so_far : List ℕ) (sequence : ℕ)
    → messages_of sequence (question_of_single done asked so_far)
    ≡ messages_of sequence (question_of_single done asked [])
same_messages done (ask.Control control) so_far sequence = refl
same_messages done _ so_far sequence = refl

-- the last of them is the question's own
pub last_message : (done : Job) (asked : Ask) (so_far : List ℕ) (sequence : ℕ) → 0 < message_count asked
    → drop (message_count asked - 1) (messages_of sequence (question_of_single done asked so_far))
    ≡ question_octets sequence (question_of_single done asked so_far) ∷ []
last_message done (ask.AwaitCall pieces) so_far sequence some = absurd (omega (arith, some))
last_message done (ask.Part block place) so_far sequence some =
    part_message block.value (part_at block place) sequence
last_message done _ so_far sequence some = refl

pub few_messages : (asked : Ask) → message_count asked ≤ 2
few_messages (ask.Control control) = omega arith
few_messages _ = omega arith
