-- Answers that refuse nothing, where no history was full and no clock failed.
use Rattle.std.proofs.Common.{◌≡◌, ◌⊎◌, ℕ, ◌<◌, Bool, true, false, None, Some, List, [], ◌∷◌, ◌++◌}
use Rattle.std.proofs.Common.{inl, inr, map, refl, ap, sym, ◌∙◌, subst, arith}
use Rattle.std.specs.List.{AllByRecursion}
use Rattle.s7_item.specs.declared.item.Item.{Item}
use Rattle.s7_area.specs.Guards.{is_read_barred, is_write_barred}
use Rattle.s7_area.specs.Memory.{Memory, read_code}
use Rattle.s7_plant.specs.declared.request.Ask.{Ask}
use Rattle.s7_plant.specs.Replies.{Said}
use Rattle.s7_plant.specs.Answers as plant
use Rattle.s7_plant.specs.State.{State}
use Rattle.s7_plant.specs.declared.request.Request.TheVariants as plain
use Rattle.s7_block.specs.declared.block.BlockName.{BlockName}
use Rattle.s7_clock.specs.declared.control.Control.{Control}
use Rattle.s7_clock.specs.declared.control.Control.TheVariants as control
use Rattle.s7_dialogue.specs.declared.questions.subject.Subject.{Subject}
use Rattle.s7_dialogue.specs.Question.{Question, reads, writes, controls, asks, asks_further}
use Rattle.s7_dialogue.specs.Question.{starts_upload, slices_upload, ends_upload}
use Rattle.s7_dialogue.specs.Answer.{Answer, tells, notes}
use Rattle.s7_dialogue.specs.Refusals.{code_refusal, part_refusal, telegram_refusal, control_refusal}
use Rattle.s7_dialogue.proofs.FlightLemmas.{same_some}
use Rattle.s7_session.specs.Telegrams.{AnyFull, clock_failures}
use Rattle.s7_session.specs.Verdict.{Verdict}
use Rattle.s7_session.proofs.TurnLemmas.{clock_failures-append}
use Rattle.s7_rig.specs.Heard.{told_of}
use Rattle.s7_rig.specs.Complete.{IsThere}
use Rattle.s7_rig.specs.Exchanges.{IsSecurity, IsUndone, IsBarred, HasTold, is_refused, is_told, NamesNone}
use Rattle.s7_rig.specs.Exchanges.{request_of, uploaded_of}
use Rattle.s7_rig.specs.Exchanges as exchange
use Rattle.s7_rig.proofs.HoldData.{IsOfItems}
use Rattle.s7_rig.proofs.HoldReplies.{IsGood, user_good}
use Rattle.s7_rig.proofs.HoldReplies.{IsDoneAs, control_good, start_good}
use Rattle.s7_rig.proofs.AskedItems.{AsksFor}
use Rattle.s7_rig.proofs.AsksLemmas.{codes_noted}
use Rattle.s7_rig.proofs.ListFacts.{not_both}
use Rattle.s7_rig.proofs.PastFacts.{full_within, full_behind}
use Rattle.s7_rig.proofs.PlacedLemmas.{placed_is_read, read_freed, write_freed}
use Rattle.s7_rig.proofs.ShapeLemmas.{SameShape, AreAllowed}

-- ---- answers that don't refuse

tells_good : (m : Memory) (right : Bool) (items : List Item)
    → AllByRecursion (λ (item : Item). read_code m right item ≡ 0xFF) items
    → part_refusal (tells (map (told_of m right) items)) ≡ None
tells_good m right [] good = refl
tells_good m right (item ∷ []) good = ap code_refusal good.0
tells_good m right (item ∷ next ∷ items) good = refl

all_codes_good : (items : List Item) → part_refusal (notes (map (λ (item : Item). 0xFF) items)) ≡ None
all_codes_good [] = refl
all_codes_good (item ∷ []) = refl
all_codes_good (item ∷ next ∷ items) = refl

-- the question reads or writes what nothing bars, with a right or without
abbrev pub IsFree : Memory → Bool → Question → Type 0
IsFree m right (reads items) = is_read_barred m.guard right ≡ false
IsFree m right (writes items octets) = is_write_barred m.guard right ≡ false
IsFree m right _ = ⊥

-- and items that stand there
abbrev pub FindsAll : Memory → Bool → Question → Type 0
FindsAll m right question = AsksFor (IsThere m) question × IsFree m right question

all_read : (m n : Memory) (right : Bool) (items : List Item) → SameShape m n → is_read_barred n.guard right ≡ false
    → AllByRecursion (IsThere n) items → AllByRecursion (λ (item : Item). read_code m right item ≡ 0xFF) items
all_read m n right [] same free there = tt
all_read m n right (item ∷ items) same free there =
    (placed_is_read m n right item same free there.0, all_read m n right items same free there.1)

-- the call of this control
abbrev pub IsControl : Control → Question → Type 0
IsControl c (controls other) = other ≡ c
IsControl c _ = ⊥

-- a control that names no block
abbrev pub NamesNoBlock : Control → Type 0
NamesNoBlock (control.Insert kind number) = ⊥
NamesNoBlock (control.Delete kind number) = ⊥
NamesNoBlock _ = Unit {0}

-- user data about this with these octets, or further octets of its answer
abbrev pub IsAbout : Subject → List ℕ → Question → Type 0
IsAbout subject octets (asks other others) = (other ≡ subject) × (others ≡ octets)
IsAbout subject octets (asks_further other octet so_far) = Unit {0}
IsAbout subject octets _ = ⊥

-- the start of the upload of this block, a slice, or the end
abbrev pub IsUploadOf : BlockName → Question → Type 0
IsUploadOf name (starts_upload other) = other ≡ name
IsUploadOf name (slices_upload id size so_far) = Unit {0}
IsUploadOf name (ends_upload id) = Unit {0}
IsUploadOf name _ = ⊥

-- ---- what was told

-- a verdict is that the history was full, or that the clock failed
abbrev pub AnyUndone : List Verdict → Type 0
AnyUndone verdicts = AnyFull verdicts ⊎ (0 < clock_failures verdicts)

any_undone : (verdicts : List Verdict) (error : ℕ) → IsUndone verdicts error → AnyUndone verdicts
any_undone verdicts error (inl h) = inl h.0
any_undone verdicts error (inr h) = inr h.0

pub undone_within : (xs ys : List Verdict) → AnyUndone xs → AnyUndone (xs ++ ys)
undone_within xs ys (inl any) = inl (full_within xs ys any)
undone_within xs ys (inr some) = inr (omega (arith, some, clock_failures-append xs ys))

pub undone_behind : (xs ys : List Verdict) → AnyUndone ys → AnyUndone (xs ++ ys)
undone_behind xs ys (inl any) = inl (full_behind xs ys any)
undone_behind xs ys (inr some) = inr (omega (arith, some, clock_failures-append xs ys))

-- a control that names no block is barred from nothing
not_barred : (c : Control) (answer : Answer) → NamesNoBlock c → IsBarred c answer → ⊥
not_barred (control.Delete kind number) answer named barred = named
not_barred _ answer named barred = barred

module _ (n : Memory) (with_right : Bool) (pdu : ℕ) (own : List Verdict) (all_done : AnyUndone own → ⊥) where
  -- the answer to a question for these doesn't refuse
  pub part_unrefused : (question : Question) (answer : Answer) (new : List (Ask × Said))
      → HasTold pdu own question answer new → AreAllowed n with_right new → FindsAll n with_right question
      → part_refusal answer ≡ None
  part_unrefused question answer new (is_refused error undone none is) shaped finds =
      absurd (all_done (any_undone own error undone))
  part_unrefused (reads items) answer new (is_told (right, reply, entered, told)) shaped finds =
      let state = (subst (AreAllowed n with_right) entered shaped).0 in
      ap part_refusal (told state.0 state.2)
      ∙ tells_good state.0.memory right items
      (all_read state.0.memory n right items state.1 (read_freed n.guard with_right right state.3 finds.1) finds.0)
  part_unrefused (writes items octets) answer new (is_told (right, reply, entered, told)) shaped finds =
      let state = (subst (AreAllowed n with_right) entered shaped).0 in
      ap part_refusal (told state.0 state.2)
      ∙ (ap (λ codes. part_refusal (notes codes))
      (codes_noted state.0.memory n right items octets state.1 (write_freed n.guard with_right right state.3 finds.1)
      finds.0.1 finds.0.0)
      ∙ all_codes_good items)
  part_unrefused _ answer new (is_told t) shaped finds = absurd finds.1

  -- and no telegram for items is refused
  pub items_unrefused : (question : Question) (answer : Answer) (new : List (Ask × Said))
      → HasTold pdu own question answer new → AreAllowed n with_right new → IsOfItems question
      → telegram_refusal answer ≡ None
  items_unrefused question answer new (is_refused error undone none is) shaped of =
      absurd (all_done (any_undone own error undone))
  items_unrefused (reads items) answer new (is_told (right, reply, entered, told)) shaped of =
      let state = (subst (AreAllowed n with_right) entered shaped).0 in
      ap telegram_refusal (told state.0 state.2)
  items_unrefused (writes items octets) answer new (is_told (right, reply, entered, told)) shaped of =
      let state = (subst (AreAllowed n with_right) entered shaped).0 in
      ap telegram_refusal (told state.0 state.2)
  items_unrefused _ answer new (is_told t) shaped of = absurd of

  -- a control that is done isn't refused
  pub control_unrefused : (c : Control) (function : ℕ) → NamesNoBlock c → IsDoneAs n with_right c function
      → (question : Question) (answer : Answer) (new : List (Ask × Said)) → HasTold pdu own question answer new
      → AreAllowed n with_right new → IsControl c question → control_refusal c answer ≡ None
  control_unrefused c function named done question answer new (is_refused error undone none is) shaped of =
      absurd (all_done (any_undone own error undone))
  control_unrefused c function named done (controls d) answer new
      (is_told (inl (request, wants, (right, reply, entered, told)))) shaped of =
      let state = (subst (AreAllowed n with_right) entered shaped).0 in
      let wanted = ap request_of (sym of) ∙ wants in
      ap (control_refusal c) told
      ∙ control_good c function reply (state.2 ∙ done right request state.0 wanted state.1 state.3)
  control_unrefused c function named done (controls d) answer new (is_told (inr (entered, barred))) shaped of =
      absurd (not_barred d answer (subst NamesNoBlock (sym of) named) barred)
  control_unrefused c function named done _ answer new (is_told t) shaped of = absurd of

  -- nor is user data that is replied to without an error
  pub about_unrefused : (subject : Subject) (octets : List ℕ) → (IsSecurity subject → ⊥)
      → (NamesNone subject octets → ⊥)
      → IsGood n with_right subject octets
      → (question : Question) (answer : Answer) (new : List (Ask × Said)) → HasTold pdu own question answer new
      → AreAllowed n with_right new → IsAbout subject octets question → telegram_refusal answer ≡ None
  about_unrefused subject octets plain named good question answer new (is_refused error undone none is) shaped of =
      absurd (all_done (any_undone own error undone))
  about_unrefused subject octets plain named good (asks other os) answer new
      (is_told (inl (moment, request, octet, wants, (right, reply, entered, told)))) shaped of =
      let state = (subst (AreAllowed n with_right) entered shaped).0 in
      let asked : exchange.AsksFor subject octets moment request =
      subst (λ xs. exchange.AsksFor subject xs moment request) of.1
      (subst (λ s. exchange.AsksFor s os moment request) of.0 wants) in
      ap telegram_refusal told
      ∙ user_good pdu octet reply
      (ap (λ (r : Said). r.error) state.2 ∙ good moment right request state.0 asked state.1 state.3)
  about_unrefused subject octets plain named good (asks other os) answer new (is_told (inr (inl security))) shaped of =
      absurd (plain (subst IsSecurity of.0 security.0))
  about_unrefused subject octets plain named good (asks other os) answer new (is_told (inr (inr unnamed))) shaped of =
      absurd (named (subst (λ xs. NamesNone subject xs) of.1 (subst (λ s. NamesNone s os) of.0 unnamed.0)))
  about_unrefused subject octets plain named good (asks_further other octet so_far) answer new (is_told t) shaped of =
      ap telegram_refusal t.3
  about_unrefused subject octets plain named good _ answer new (is_told t) shaped of = absurd of

  -- nor is anything of the upload of a block whose start is replied to without an error
  pub upload_unrefused : (name : BlockName) → uploaded_of name ≡ Some name
      → ((right : Bool) (s : State) → SameShape s.memory n → (with_right ≡ true → right ≡ true)
      → (plant.answer s right (plain.StartUpload name.kind name.number)).error ≡ 0)
      → (question : Question) (answer : Answer) (new : List (Ask × Said)) → HasTold pdu own question answer new
      → AreAllowed n with_right new → IsUploadOf name question → telegram_refusal answer ≡ None
  upload_unrefused name named good question answer new (is_refused error undone none is) shaped of =
      absurd (all_done (any_undone own error undone))
  upload_unrefused name named good (starts_upload other) answer new
      (is_told (inl (block, id, names, (right, reply, entered, told)))) shaped of =
      let state = (subst (AreAllowed n with_right) entered shaped).0 in
      let block_is : block ≡ name = same_some block name (sym names ∙ (ap uploaded_of of ∙ named)) in
      ap telegram_refusal told
      ∙ start_good id reply
      (ap (λ (r : Said). r.error) state.2
      ∙ (ap (λ (b : BlockName). (plant.answer state.0 right (plain.StartUpload b.kind b.number)).error) block_is
      ∙ good right state.0 state.1 state.3))
  upload_unrefused name named good (starts_upload other) answer new (is_told (inr unnamed)) shaped of =
      absurd (not_both (uploaded_of name) name (ap uploaded_of (sym of) ∙ unnamed.0) named)
  upload_unrefused name named good (slices_upload id size so_far) answer new (is_told t) shaped of =
      ap telegram_refusal t.3
  upload_unrefused name named good (ends_upload id) answer new (is_told t) shaped of = ap telegram_refusal t.1
  upload_unrefused name named good _ answer new (is_told t) shaped of = absurd of
