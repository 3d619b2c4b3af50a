-- A whole data block that stands in the areas is read and filled: its head is told, and no part of it is refused.
use Rattle.std.proofs.Common.{◌≡◌, ◌⊎◌, inl, inr, ℕ, ◌≤◌, Bool, true, false, cond, eqb, ltb, Option, None, Some, List}
use Rattle.std.proofs.Common.{[], ◌∷◌, ◌++◌, length, take, drop, refl, sym, ap, ◌∙◌, subst, arith, append-nil}
use Rattle.std.proofs.Common.{length-append, take-append-drop}
use Rattle.std.specs.Prelude.{option_map, slice_get}
use Rattle.std.specs.List.{AllByRecursion}
use Rattle.std.proofs.lemmas.List.{map-append}
use Rattle.s7_area.specs.Memory.{Memory}
use Rattle.s7_plant.specs.Answers as plant
use Rattle.s7_plant.specs.Answers.{db_image, info_told}
use Rattle.s7_plant.specs.declared.request.Ask.{Ask}
use Rattle.s7_plant.specs.declared.request.Request.TheVariants.{Info}
use Rattle.s7_plant.specs.Requests.{asked}
use Rattle.s7_plant.specs.Replies.{Said, said}
use Rattle.s7_plant.specs.State.{State}
use Rattle.s7_dialogue.specs.declared.questions.subject.Subject.TheVariants.{DataHead}
use Rattle.s7_dialogue.specs.Answer.{Answer, brings, refuses}
use Rattle.s7_dialogue.specs.DataBlocks.{data_length}
use Rattle.s7_dialogue.specs.Dialogue.{End, Conduct, behind, block_octets, count_of_data, first_refusal, last_answer}
use Rattle.s7_dialogue.specs.Dialogue.{next_of_data, octets_brought, octets_in}
use Rattle.s7_dialogue.specs.Flight.{Row, answers_of}
use Rattle.s7_dialogue.specs.Question.{Question, asks, asks_further}
use Rattle.s7_dialogue.specs.Refusals.{part_refusal, telegram_refusal}
use Rattle.s7_dialogue.proofs.FlightLemmas.{same_some}
use Rattle.s7_client.proofs.FitLemmas.{one_of_all}
use Rattle.s7_session.specs.Judgement.{slice_room}
use Rattle.s7_rig.specs.Complete.{IsBlock, data_block}
use Rattle.s7_session.specs.Verdict.{Verdict}
use Rattle.s7_rig.specs.Exchanges.{HasTold, IsSecurity, is_refused, is_told, user_heard}
use Rattle.s7_rig.proofs.Awaiting.{AreInTurn}
use Rattle.s7_rig.proofs.Conversing.{Exchange, rows_of, AreTold, Converses}
use Rattle.s7_rig.proofs.BlockFitLemmas.{data_told}
use Rattle.s7_rig.proofs.BlockHeadLemmas.{asks_info, first_long, length_kept, length_told}
use Rattle.s7_rig.proofs.PartLemmas.{no_refusal}
use Rattle.s7_rig.proofs.BlockOffLemmas.{same_block, head_good, names_block, some_is}
use Rattle.s7_rig.proofs.DataAsksLemmas.{of_either}
use Rattle.s7_rig.proofs.HoldPieces.{behind_is, brought_more}
use Rattle.s7_rig.proofs.OffLemmas.{AreSound, NoneRefuses, sound_first, unrefused}
use Rattle.s7_rig.proofs.ShapeLemmas.{SameShape, AreAllowed}
use Rattle.s7_rig.proofs.UnrefusedLemmas.{FindsAll, IsAbout, about_unrefused, part_unrefused}

-- ---- octets of a head

-- the octets that came of the head say that there are so many
record IsHead (size : ℕ) (octets : List ℕ) : Type 0 where
  long : 16 ≤ length octets
  says : data_length octets ≡ size

head_more : (size : ℕ) (octets piece : List ℕ) → IsHead size octets → IsHead size (octets ++ piece)
head_more size octets piece head = record {
  long = omega (arith, length-append octets piece, head.long);
  says = length_kept octets piece head.long ∙ head.says;
}

head_first : (pdu number : ℕ) (stood : List ℕ) → 64 ≤ pdu
    → IsHead (length stood) (take (slice_room pdu) (data_told number stood))
head_first pdu number stood least =
    let room : ℕ = slice_room pdu in
    let body : List ℕ = data_told number stood in
    let long = first_long pdu body least (omega arith) in
    record {
      long = long;
      says = sym (length_kept (take room body) (drop room body) long)
          ∙ (ap data_length (take-append-drop room body) ∙ length_told number stood);
    }

-- ---- answers that tell it

told_refusal : (b more : Bool) (octet error : ℕ) (octets : List ℕ)
    → telegram_refusal (cond b (brings octet more octets) (refuses error)) ≡ None
    → part_refusal (cond b (brings octet more octets) (refuses error)) ≡ None
told_refusal true more octet error octets none = refl
told_refusal false more octet error octets none = absurd (cc)

-- none of the head that isn't refused as a telegram is refused
head_unrefused : {pdu : ℕ} {own : List Verdict} (octets : List ℕ) (q : Question) (a : Answer)
    (new : List (Ask × Said)) → IsAbout DataHead octets q → HasTold pdu own q a new → telegram_refusal a ≡ None
    → part_refusal a ≡ None
head_unrefused octets q a new about (is_refused error undone entered is) none =
    ap part_refusal is ∙ (sym (ap telegram_refusal is) ∙ none)
head_unrefused {pdu} octets (asks subject others) a new about
    (is_told (inl (moment, request, octet, wants, (right, reply, entered, told)))) none =
    ap part_refusal told
    ∙ told_refusal (eqb reply.error 0) (ltb (slice_room pdu) (length reply.body)) octet reply.error
    (take (slice_room pdu) reply.body) (ap telegram_refusal (sym told) ∙ none)
head_unrefused octets (asks subject others) a new about (is_told (inr (inl security))) none =
    absurd (subst IsSecurity about.0 security.0)
head_unrefused octets (asks subject others) a new about (is_told (inr (inr unnamed))) none =
    ap part_refusal unnamed.2 ∙ (sym (ap telegram_refusal unnamed.2) ∙ none)
head_unrefused octets (asks_further subject octet so_far) a new about (is_told t) none = ap part_refusal t.3
head_unrefused octets _ a new about (is_told t) none = absurd about

module _ (n : Memory) (right : Bool) (pdu number : ℕ) (block : IsBlock n number) (least : 64 ≤ pdu) where
  -- the octets of its name, and its own
  abbrev name : List ℕ
  name = block_octets 0x41 number

  abbrev size : ℕ
  size = length (some_is (data_block n number) block.1).0

  -- whatever replies, the first octets say how many it has
  reply_head : (own : Bool) (reply : Said) (octet : ℕ) (s : State) → SameShape s.memory n
      → reply ≡ plant.answer_of s (asked own (Info 0x41 number)) → IsHead size (octets_in (user_heard pdu octet reply))
  reply_head own reply octet s same is =
      let found = some_is (data_block n number) block.1 in
      let there = same_block s.memory n number found.0 same found.1 in
      let told : reply ≡ said 0 [] (data_told number there.stood) =
      is ∙ ap (λ o. info_told 0x41 (option_map (db_image number) o)) there.is in
      subst (λ (r : Said). IsHead size (octets_in (user_heard pdu octet r))) (sym told)
      (subst (λ k. IsHead k (take (slice_room pdu) (data_told number there.stood))) there.long
      (head_first pdu number there.stood least))

  answer_head : {own : List Verdict} (a : Answer) (new : List (Ask × Said)) → HasTold pdu own (asks DataHead name) a new
      → part_refusal a ≡ None → AreAllowed n right new → IsHead size (octets_in a)
  answer_head a new (is_refused error undone entered is) none shaped =
      absurd (no_refusal error (ap part_refusal (sym is) ∙ none))
  answer_head a new (is_told (inl (moment, request, octet, wants, (own, reply, entered, told)))) none shaped =
      let info : request ≡ Info 0x41 number = asks_info number moment request block.0 wants in
      let state = (subst (AreAllowed n right) entered shaped).0 in
      subst (λ (x : Answer). IsHead size (octets_in x)) (sym told)
      (reply_head own reply octet state.0 state.1
      (state.2 ∙ ap (λ r. plant.answer_of state.0 (asked own r)) info))
  answer_head a new (is_told (inr (inl security))) none shaped = absurd security.0
  answer_head a new (is_told (inr (inr unnamed))) none shaped =
      absurd (no_refusal 0x8404 (ap part_refusal (sym unnamed.2) ∙ none))

  -- ---- what is asked

  -- the head or further octets of it, or a part that stands there
  abbrev pub AsksData : Question → Type 0
  AsksData q = IsAbout DataHead name q ⊎ FindsAll n right q

  data_unrefused : NoneRefuses n right pdu part_refusal AsksData
  data_unrefused own all_done q a new told shaped (inl about) =
      head_unrefused name q a new about told
      (about_unrefused n right pdu own all_done DataHead name (λ secures. secures) (names_block number block.0)
      (head_good n right number block) q a new told shaped about)
  data_unrefused own all_done q a new told shaped (inr finds) =
      part_unrefused n right pdu own all_done q a new told shaped finds

  module _ (c : Conduct) (questions : ℕ → List Question)
      (asks_by : (answers : List (Option Answer)) → c.question_at answers ≡ next_of_data name questions answers)
      (each : AllByRecursion (FindsAll n right) (questions size)) where
    asked_next : (first : Option Answer) (answers : List (Option Answer)) (q : Question)
        → IsHead size (octets_brought (first ∷ answers)) → c.question_at (first ∷ answers) ≡ Some q → AsksData q
    asked_next first answers q head is =
        let so_far : List ℕ = octets_brought (first ∷ answers) in
        let last : Option Answer = last_answer first answers in
        let at : ℕ = count_of_data (first ∷ answers) in
        of_either (AsksData q) (behind DataHead so_far last) (slice_get (questions (data_length so_far)) at) q
        (λ piece. inl (subst (IsAbout DataHead name) (sym (behind_is DataHead so_far last q piece).1) tt))
        (λ part.
        inr
        (one_of_all (FindsAll n right) (questions (data_length so_far)) at q
        (subst (λ k. AllByRecursion (FindsAll n right) (questions k)) (sym head.says) each) part))
        (sym (asks_by (first ∷ answers)) ∙ is)

    brought_by : (first : Row) (rows : List Row) (row : Row) (a : Answer) → row.answer ≡ Some a
        → octets_brought (answers_of (first ∷ (rows ++ row ∷ [])))
        ≡ octets_brought (answers_of (first ∷ rows)) ++ octets_in a
    brought_by first rows row a is =
        ap octets_brought
        (map-append (λ (r : Row). r.answer) (first ∷ rows) (row ∷ [])
        ∙ ap (λ o. answers_of (first ∷ rows) ++ o ∷ []) is)
        ∙ brought_more (answers_of (first ∷ rows)) a

    asked_behind : (first : Row) (rows : List Row) (xs : List Exchange)
        → IsHead size (octets_brought (answers_of (first ∷ rows))) → AreInTurn c (first ∷ rows) (rows_of xs)
        → AllByRecursion (λ (x : Exchange). AsksData x.question) xs
    asked_behind first rows [] head turn = tt
    asked_behind first rows (x ∷ xs) head turn =
        let row : Row = record { question = x.question; number = x.number; answer = Some x.answer } in
        let more = brought_by first rows row x.answer refl in (
          asked_next first.answer (answers_of rows) x.question head turn.0.is,
          asked_behind first (rows ++ row ∷ []) xs
              (subst (IsHead size) (sym more)
              (head_more size (octets_brought (answers_of (first ∷ rows))) (octets_in x.answer) head)) turn.2,
        )

    asked_all : (xs : List Exchange) → AreInTurn c [] (rows_of xs) → AreTold pdu xs → AreSound n right xs
        → AllByRecursion (λ (x : Exchange). AsksData x.question) xs
    asked_all [] turn told sound = tt
    asked_all (x ∷ xs) turn told sound =
        let q : Question = asks DataHead name in
        let row : Row = record { question = x.question; number = x.number; answer = Some x.answer } in
        let is : q ≡ x.question = same_some q x.question (sym (asks_by []) ∙ turn.0.is) in
        let about : IsAbout DataHead name x.question = subst (IsAbout DataHead name) is (refl, refl) in
        let first = sound_first n right pdu x xs sound in
        let none = data_unrefused x.verdicts first.1 x.question x.answer x.entries told.0 first.0 (inl about) in
        let heard = subst (λ k. HasTold pdu x.verdicts k x.answer x.entries) (sym is) told.0 in
        let head = answer_head x.answer x.entries heard none first.0 in (
          inl about,
          asked_behind row [] xs (subst (IsHead size) (sym (append-nil (octets_in x.answer))) head) turn.2,
        )

    -- no answer to the questions for the data block refuses
    pub data_off : (end : End) (xs : List Exchange) → c.width ≤ 1 → Converses pdu c end xs → AreSound n right xs
        → first_refusal part_refusal 0 (answers_of (rows_of xs)) ≡ None
    data_off end xs narrow went sound =
        unrefused n right pdu part_refusal AsksData data_unrefused 0 xs
        (asked_all xs (went.in_turn narrow) went.told sound) went.told sound
