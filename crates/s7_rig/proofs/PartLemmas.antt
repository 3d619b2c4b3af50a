-- What a read of one item that came off has read, part by part: a part is a group of one.
use Rattle.std.proofs.Common.{◌≡◌, ℕ, ◌+◌, Bool, true, false, cond, eqb, Option, None, Some, List, [], ◌∷◌, ◌++◌, length}
use Rattle.std.proofs.Common.{refl, ap, sym, ◌∙◌, subst}
use Rattle.std.specs.Prelude.{slice_get}
use Rattle.std.specs.List.{AllByRecursion}
use Rattle.std.proofs.lemmas.Bool.{eqb-true}
use Rattle.s7_item.specs.declared.item.Item.{Item}
use Rattle.s7_split.specs.Parts.{parts_of}
use Rattle.s7_plant.specs.declared.request.Ask.{Ask}
use Rattle.s7_plant.specs.declared.request.Request.TheVariants.{Read}
use Rattle.s7_plant.specs.Requests.{asked}
use Rattle.s7_plant.specs.Replies.{Said}
use Rattle.s7_dialogue.specs.declared.grant.Grant.{Grant}
use Rattle.s7_dialogue.specs.declared.job.Job.TheVariants as job
use Rattle.s7_dialogue.specs.Question.{Question, reads}
use Rattle.s7_dialogue.specs.Answer.{Answer, ItemAnswer, refuses, tells}
use Rattle.s7_dialogue.specs.Refusals.{number_of_code, part_refusal}
use Rattle.s7_dialogue.specs.Checks.{check_item}
use Rattle.s7_dialogue.specs.Flight.{answers_of}
use Rattle.s7_dialogue.specs.Dialogue.{End, Plan, Conduct, read_questions, alone, first_refusal, octets_told, codes_told}
use Rattle.s7_dialogue.specs.Course.{Origin, conduct_of}
use Rattle.s7_dialogue.proofs.EndLemmas.{first_none}
use Rattle.s7_client.proofs.FitLemmas.{one_of_all}
use Rattle.s7_client.proofs.FormLemmas.{part_positive}
use Rattle.s7_session.specs.Verdict.{Verdict}
use Rattle.s7_rig.specs.Heard.{told_of}
use Rattle.s7_rig.specs.Dialogues.{AreReplies, AreGood, ReadsParts}
use Rattle.s7_rig.specs.Exchanges.{HasTold, is_refused, is_told}
use Rattle.s7_rig.proofs.Awaiting.{AreAsked}
use Rattle.s7_rig.proofs.Conversing.{Exchange, entries_of, rows_of, AreTold, Converses}
use Rattle.s7_rig.proofs.GroupLemmas.{grouping, conversed, came_off, groups_read}

-- how these parts are read
abbrev pub reading : Grant → List Item → Plan
reading grant parts = grouping part_refusal (λ answers. []) grant (alone parts)

pub no_refusal : (error : ℕ) → part_refusal (refuses error) ≡ None → ⊥
no_refusal error none = cc

-- ---- what is asked

-- the question reads one item
abbrev pub ReadsOne : Question → Type 0
ReadsOne q = (part : Item) × (q ≡ reads (part ∷ []))

pub each_one : (parts : List Item) → AllByRecursion ReadsOne (read_questions (alone parts))
each_one [] = tt
each_one (part ∷ parts) = ((part, refl), each_one parts)

-- each question that is asked is one that its conduct asks
pub asked_each : (P : Question → Type 0) (c : Conduct) (place : ℕ) (xs : List Exchange)
    → ((answers : List (Option Answer)) (question : Question) → c.question_at answers ≡ Some question → P question)
    → AreAsked c place (rows_of xs) → AllByRecursion (λ (x : Exchange). P x.question) xs
asked_each P c place [] each asked = tt
asked_each P c place (x ∷ xs) each asked =
    (each asked.0.answers x.question asked.0.asks, asked_each P c (place + 1) xs each asked.1)

-- ---- good codes

good_code : (code : ℕ) (good : Bool) → eqb code 0xFF ≡ good → cond good None (Some (number_of_code code)) ≡ None
    → code ≡ 0xFF
good_code code true e none = eqb-true code 0xFF e
good_code code false e none = absurd (cc)

pub replies_behind : (xs ys : List (Ask × Said)) → AreReplies (xs ++ ys) → AreReplies ys
replies_behind [] ys h = h
replies_behind (x ∷ xs) ys h = replies_behind xs ys h.1

pub part_tells : {pdu : ℕ} {own : List Verdict} (part : Item) (a : Answer) (new entries : List (Ask × Said))
    → HasTold pdu own (reads (part ∷ [])) a new → part_refusal a ≡ None → AreReplies (new ++ entries) → (t : ItemAnswer) × (a ≡ tells (t ∷ []))
part_tells part a new entries (is_refused error undone entered is) none replies =
    absurd (no_refusal error (ap part_refusal (sym is) ∙ none))
part_tells part a new entries (is_told (right, reply, is, told)) none replies =
    let given : AreReplies ((asked right (Read (part ∷ [])), reply) ∷ entries) =
    subst (λ es. AreReplies (es ++ entries)) is replies in
    (told_of given.0.0.memory right part, told given.0.0 given.0.1)

-- where no part is refused, each code is good
codes_good : (pdu place : ℕ) (xs : List Exchange) → AllByRecursion (λ (x : Exchange). ReadsOne x.question) xs
    → first_refusal part_refusal place (answers_of (rows_of xs)) ≡ None → AreTold pdu xs → AreReplies (entries_of xs)
    → AreGood (codes_told (answers_of (rows_of xs)))
codes_good pdu place [] ones none told replies = tt
codes_good pdu place (x ∷ xs) ones none told replies =
    let answers = answers_of (rows_of xs) in
    let unrefused = first_none (part_refusal x.answer) place (first_refusal part_refusal (place + 1) answers) none in
    let t = part_tells ones.0.0 x.answer x.entries (entries_of xs)
    (subst (λ q. HasTold pdu x.verdicts q x.answer x.entries) ones.0.1 told.0) unrefused.0 replies in
    subst (λ (a : Answer). AreGood (codes_told (Some a ∷ answers))) (sym t.1) (
      good_code t.0.code (eqb t.0.code 0xFF) refl (ap part_refusal (sym t.1) ∙ unrefused.0),
      codes_good pdu (place + 1) xs ones.1 unrefused.1 told.1 (replies_behind x.entries (entries_of xs) replies),
    )

-- ---- a read that came off

-- the exchanges read all parts
pub parts_read : (pdu : ℕ) (grant : Grant) (parts : List Item) (xs : List Exchange)
    → AreAsked (reading grant parts).conduct 0 (rows_of xs)
    → slice_get (read_questions (alone parts)) (0 + length xs) ≡ None
    → first_refusal part_refusal 0 (answers_of (rows_of xs)) ≡ None → AreTold pdu xs → AreReplies (entries_of xs)
    → ReadsParts parts (entries_of xs) (octets_told (answers_of (rows_of xs)))
parts_read pdu grant parts xs asked all none told replies =
    let groups = alone parts in
    let ones = asked_each ReadsOne (reading grant parts).conduct 0 xs
    (λ answers q. one_of_all ReadsOne (read_questions groups) (length answers) q (each_one parts)) asked in (
      codes_told (answers_of (rows_of xs)),
      codes_good pdu 0 xs ones none told replies,
      groups_read part_refusal (λ answers. []) no_refusal pdu grant groups [] groups xs refl asked all none told,
    )

-- A read that came off has read the parts of its item, whatever memories replied.
pub item_read : {pdu : ℕ} (origin : Origin) (grant : Grant) (item : Item) (end : End) (xs : List Exchange)
    → origin.granted ≡ Some grant → origin.job ≡ job.ReadArea item → end.code ≡ 0
    → Converses pdu (conduct_of origin) end xs → AreReplies (entries_of xs)
    → ReadsParts (parts_of item grant.pdu false) (entries_of xs) end.octets
item_read {pdu} origin grant item end xs granted job_is good c replies =
    let parts = parts_of item grant.pdu false in
    let read = conversed origin grant (job.ReadArea item) (check_item item true) (reading grant parts) end xs granted
    job_is refl good c in
    let off = came_off part_refusal (λ answers. []) grant (alone parts) end xs part_positive good read in
    subst (λ (e : End). ReadsParts parts (entries_of xs) e.octets) (sym off.is)
    (parts_read pdu grant parts xs read.asked off.all_asked off.unrefused read.told replies)
