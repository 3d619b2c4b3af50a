-- Lemmas on what is kept of an answer.
use Rattle.std.proofs.Common.{◌≡◌, ℕ, ◌+◌, ◌≤◌, Bool, true, false, cond, inl, inr, List, [], map, refl, sym, ap, ◌∙◌, subst}
use Rattle.std.proofs.lemmas.Bool.{and_parts}
use Rattle.s7_item.specs.declared.item.Item.{Item}
use Rattle.s7_dialogue.specs.declared.job.Job.{Job}
use Rattle.s7_dialogue.specs.declared.answers.answer.Asked.{Asked}
use Rattle.s7_dialogue.specs.declared.answers.answer.Asked.TheVariants as asked
use Rattle.s7_dialogue.specs.declared.answers.answer.Answer as kept
use Rattle.s7_dialogue.specs.declared.answers.answer.Answer.TheVariants as told
use Rattle.s7_dialogue.specs.declared.stages.flight.Flight.{Flight}
use Rattle.s7_dialogue.specs.Question.{Question, reads, writes}
use Rattle.s7_dialogue.specs.Answer.{Answer, ItemAnswer}
use Rattle.s7_dialogue.specs.DataItems.{answers_in}
use Rattle.s7_dialogue.specs.Told.{IsAsked, Tells}
use Rattle.s7_dialogue.specs.Checks.{octet_count_of}
use Rattle.s7_dialogue.specs.Stages.{can_ask, can_fly}
use Rattle.s7_dialogue.specs.GoesOn.{TellAll}
use Rattle.s7_dialogue.specs.Taking.{IsFor, with_octets, with_codes, Keeps}
use Rattle.s7_dialogue.proofs.UnputLemmas.{read_sent}
use Rattle.s7_dialogue.proofs.TakenLemmas.{tell_all}

-- what is kept of a read or a write
abbrev pub asked_by : Bool → List Item → Asked
asked_by write items = cond write (asked.Write items) (asked.Read items)

pub by_kind : (items : List Item) (wanted : Asked) → IsFor items wanted
    → (write : Bool) × (wanted ≡ asked_by write items)
by_kind items wanted (inl is) = (false, is)
by_kind items wanted (inr is) = (true, is)

-- something is told to what is kept of a question
abbrev pub IsToldTo : Asked → kept.Answer → Type 0
IsToldTo wanted told = (question : Question) → IsAsked wanted question → (x : Answer) × Tells question told x

-- what is asked is known to be for these items
asked_can : (job : Job) (found : ℕ) (flight : Flight) (write : Bool) (items : List Item)
    → flight.asked ≡ asked_by write items
    → can_fly job found flight ≡ true → can_ask job found flight.from (asked_by write items) ≡ true
asked_can job found flight write items is flies =
    ap (can_ask job found flight.from) (sym is) ∙ (and_parts _ (can_ask job found flight.from flight.asked) flies).1

-- only a read is told items: their answers fit them, and there are places for their octets
pub keep_items : (job : Job) (found : ℕ) (flight : Flight) (write : Bool) (items : List Item) (t : kept.Answer)
    (answers : _)
    → flight.asked ≡ asked_by write items → can_fly job found flight ≡ true → IsToldTo flight.asked t
    → t ≡ told.Items answers
    → TellAll items (answers_in answers.items) × (flight.from + octet_count_of items ≤ found)
keep_items job found flight true items t answers is flies tells is_items =
    let there : IsToldTo (asked.Write items) (told.Items answers) =
    subst (λ (a : Asked). IsToldTo a (told.Items answers)) is (subst (IsToldTo flight.asked) is_items tells) in
    absurd (there (writes items []) refl).1
keep_items job found flight false items t answers is flies tells is_items =
    let there : IsToldTo (asked.Read items) (told.Items answers) =
    subst (λ (a : Asked). IsToldTo a (told.Items answers)) is (subst (IsToldTo flight.asked) is_items tells) in
    let telling = (there (reads items) refl).1 in (
      tell_all items telling.0 (answers_in answers.items) telling.1,
      (read_sent job found flight.from items (asked_can job found flight false items is flies)).1,
    )

-- what items that were read leave
pub keeps_items : (items : List Item) (flight : Flight) (t : kept.Answer) (answers : _)
    (slice : _) (found codes found' codes' : List ℕ)
    → t ≡ told.Items answers → slice ≡ answers.items
    → found' ≡ with_octets flight.from items (answers_in slice) found
    → codes' ≡ with_codes flight.item (map (λ (item : ItemAnswer). item.code) (answers_in slice)) codes
    → Keeps items flight t found codes found' codes'
keeps_items items flight t answers slice found codes found' codes' is same octets noted =
    subst (λ (t : kept.Answer). Keeps items flight t found codes found' codes') (sym is) (
      octets ∙ ap (λ xs. with_octets flight.from items (answers_in xs) found) same,
      noted ∙ ap (λ xs. with_codes flight.item (map (λ (item : ItemAnswer). item.code) (answers_in xs)) codes) same,
    )
