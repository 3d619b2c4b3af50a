-- What a plant tells of the head of a data block, and what a client hears of it, piece by piece.
use Rattle.std.proofs.Common.{◌≡◌, ℕ, ◌+◌, ◌-◌, ◌<◌, ◌≤◌, Bool, true, false, cond, eqb, ltb, Option, None, Some, List}
use Rattle.std.proofs.Common.{[], ◌∷◌, ◌++◌, inl, inr}
use Rattle.std.proofs.Common.{length, take, drop, refl, ap, sym, ◌∙◌, subst, arith, length-take, take-append-drop}
use Rattle.std.specs.Prelude.{option_map}
use Rattle.std.proofs.lemmas.Bool.{eqb-true, lt-ltb}
use Rattle.std.proofs.lemmas.List.{get_or_append_left}
use Rattle.s7_block.specs.declared.block.BlockName.{BlockName}
use Rattle.s7_block.specs.Heads.{four_at}
use Rattle.s7_block.proofs.DigitLemmas.{names_read}
use Rattle.s7_plant.specs.Answers as plant
use Rattle.s7_plant.specs.Answers.{db_image, info_told}
use Rattle.s7_plant.specs.declared.request.Ask.{Ask}
use Rattle.s7_plant.specs.declared.request.Request.{Request}
use Rattle.s7_plant.specs.declared.request.Request.TheVariants.{Info}
use Rattle.s7_plant.specs.Requests.{asked}
use Rattle.s7_plant.specs.Replies.{Said}
use Rattle.s7_plant.specs.State.{State}
use Rattle.s7_dialogue.specs.declared.questions.subject.Subject.TheVariants.{DataHead}
use Rattle.s7_dialogue.specs.Answer.{Answer, refuses, brings}
use Rattle.s7_dialogue.specs.DataBlocks.{data_length}
use Rattle.s7_dialogue.specs.Dialogue.{block_octets}
use Rattle.s7_dialogue.specs.Question.{asks, asks_further}
use Rattle.s7_dialogue.specs.Refusals.{part_refusal}
use Rattle.s7_dialogue.proofs.FlightLemmas.{same_some}
use Rattle.s7_session.specs.Judgement.{slice_room}
use Rattle.s7_session.specs.Verdict.{Verdict}
use Rattle.s7_rig.specs.Complete.{data_block}
use Rattle.s7_rig.specs.Dialogues.{AreReplies}
use Rattle.s7_rig.specs.Exchanges.{AsksFor, user_heard, HasTold, is_refused, is_told}
use Rattle.s7_rig.proofs.BlockFitLemmas.{data_told, load_told}
use Rattle.s7_rig.proofs.PartLemmas.{no_refusal}

-- ---- how many octets a head says that there are

four_front : (xs ys : List ℕ) (k : ℕ) → k + 4 ≤ length xs → four_at (xs ++ ys) k ≡ four_at xs k
four_front xs ys k long =
    let a = get_or_append_left xs ys 0 k (omega arith) in
    let b = get_or_append_left xs ys 0 (k + 1) (omega arith) in
    let c = get_or_append_left xs ys 0 (k + 2) (omega arith) in
    let d = get_or_append_left xs ys 0 (k + 3) (omega arith) in
    cc

-- the first 16 octets say it, whatever follows them
pub length_kept : (xs ys : List ℕ) → 16 ≤ length xs → data_length (xs ++ ys) ≡ data_length xs
length_kept xs ys long = ap (λ n. n - 36) (four_front xs ys 12 (omega arith))

without_head : (n : ℕ) → 36 + n - 36 ≡ n
without_head n = omega arith

pub length_told : (number : ℕ) (stood : List ℕ) → data_length (data_told number stood) ≡ length stood
length_told number stood = ap (λ n. n - 36) (load_told number stood) ∙ without_head (length stood)

-- ---- what is replied

-- the data block is there, and its head is told
record IsHeadTold (number : ℕ) (found : Option (List ℕ)) (reply : Said) : Type 0 where
  stood : List ℕ
  there : found ≡ Some stood
  body : reply.body ≡ data_told number stood

told_by : (number : ℕ) (found : Option (List ℕ)) (reply : Said)
    → reply ≡ info_told 0x41 (option_map (db_image number) found) → reply.error ≡ 0 → IsHeadTold number found reply
told_by number None reply is good = absurd (omega (arith, ap (λ (r : Said). r.error) is, good))
told_by number (Some stood) reply is good =
    record { stood = stood; there = refl; body = ap (λ (r : Said). r.body) is }

-- ---- further octets

-- further octets came, for which nothing was entered
pub record PieceRead (answer : Answer) (new : List (Ask × Said)) : Type 0 where
  pub octet : ℕ
  pub more : Bool
  pub piece : List ℕ
  pub none_new : new ≡ []
  pub is : answer ≡ brings octet more piece

pub piece_read : {pdu : ℕ} {own : List Verdict} (octet : ℕ) (so_far : List ℕ) (a : Answer) (new : List (Ask × Said))
    → HasTold pdu own (asks_further DataHead octet so_far) a new → part_refusal a ≡ None → PieceRead a new
piece_read octet so_far a new (is_refused error undone entered is) none =
    absurd (no_refusal error (ap part_refusal (sym is) ∙ none))
piece_read {pdu} octet so_far a new (is_told t) none =
    record {
      octet = octet;
      more = ltb (slice_room pdu) (length t.1);
      piece = take (slice_room pdu) t.1;
      none_new = t.0;
      is = t.3;
    }

-- ---- the head

-- The head was told, and its first octets came: whatever state replied, the block stood there with as many octets as
-- these say.
pub record HeadRead (number : ℕ) (answer : Answer) (new : List (Ask × Said)) : Type 0 where
  pub right : Bool
  pub reply : Said
  pub new_is : new ≡ (asked right (Info 0x41 number), reply) ∷ []
  pub octet : ℕ
  pub more : Bool
  pub piece : List ℕ
  pub is : answer ≡ brings octet more piece
  pub long : 16 ≤ length piece
  pub stood : (s : State) → reply ≡ plant.answer_of s (asked right (Info 0x41 number))
      → (stood : List ℕ) × (data_block s.memory number ≡ Some stood) × (length stood ≡ data_length piece)

good_by : (b : Bool) (error octet : ℕ) (more : Bool) (piece : List ℕ)
    → part_refusal (cond b (brings octet more piece) (refuses error)) ≡ None → b ≡ true
good_by true error octet more piece none = refl
good_by false error octet more piece none = absurd (no_refusal error none)

-- the first piece has at least 38 octets, or all of them
pub first_long : (pdu : ℕ) (body : List ℕ) → 64 ≤ pdu → 16 ≤ length body → 16 ≤ length (take (slice_room pdu) body)
first_long pdu body least long = omega (arith, length-take (slice_room pdu) body)

first_read : (number : ℕ) (right : Bool) (reply : Said) (pdu octet : ℕ) (a : Answer) (new entries : List (Ask × Said))
    → new ≡ (asked right (Info 0x41 number), reply) ∷ [] → a ≡ user_heard pdu octet reply → 64 ≤ pdu
    → part_refusal a ≡ None → AreReplies (new ++ entries) → HeadRead number a new
first_read number right reply pdu octet a new entries new_is told least none replies =
    let room : ℕ = slice_room pdu in
    let more : Bool = ltb room (length reply.body) in
    let piece : List ℕ = take room reply.body in
    let good = good_by (eqb reply.error 0) reply.error octet more piece (ap part_refusal (sym told) ∙ none) in
    let is : a ≡ brings octet more piece =
    told ∙ ap (λ b. cond b (brings octet more piece) (refuses reply.error)) good in
    let error : reply.error ≡ 0 = eqb-true reply.error 0 good in
    let given : AreReplies ((asked right (Info 0x41 number), reply) ∷ entries) =
    subst (λ es. AreReplies (es ++ entries)) new_is replies in
    let whole = told_by number (data_block given.0.0.memory number) reply given.0.1 error in
    let all : 16 ≤ length reply.body = subst (λ (octets : List ℕ). 16 ≤ length octets) (sym whole.body) (omega arith) in
    let long = first_long pdu reply.body least all in
    let says : data_length reply.body ≡ data_length piece =
    ap data_length (sym (take-append-drop room reply.body)) ∙ length_kept piece (drop room reply.body) long in
    record {
      right = right;
      reply = reply;
      new_is = new_is;
      octet = octet;
      more = more;
      piece = piece;
      is = is;
      long = long;
      stood = λ s gives.
          let found = told_by number (data_block s.memory number) reply gives error in (
            found.stood,
            found.there,
            sym (length_told number found.stood) ∙ (ap data_length (sym found.body) ∙ says),
          );
    }

-- the octets of its name name the data block
pub asks_info : (number moment : ℕ) (request : Request) → number < 65536
    → AsksFor DataHead (block_octets 0x41 number) moment request → request ≡ Info 0x41 number
asks_info number moment request low wants =
    let name : BlockName = record { kind = 0x41; number = number } in
    let same : wants.0 ≡ name =
    same_some wants.0 name (sym wants.1 ∙ names_read.names name 0x41 (lt-ltb number 65536 low)) in
    wants.2 ∙ ap (λ (n : BlockName). Info n.kind n.number) same

pub head_read : {pdu : ℕ} {own : List Verdict} (number : ℕ) (a : Answer) (new entries : List (Ask × Said))
    → 64 ≤ pdu → number < 65536 → HasTold pdu own (asks DataHead (block_octets 0x41 number)) a new
    → part_refusal a ≡ None → AreReplies (new ++ entries) → HeadRead number a new
head_read number a new entries least low (is_refused error undone entered is) none replies =
    absurd (no_refusal error (ap part_refusal (sym is) ∙ none))
head_read {pdu} number a new entries least low
    (is_told (inl (moment, request, octet, wants, (right, reply, entered, told)))) none replies =
    let info : request ≡ Info 0x41 number = asks_info number moment request low wants in
    first_read number right reply pdu octet a new entries
    (entered ∙ ap (λ r. (asked right r, reply) ∷ []) info) told least none replies
head_read number a new entries least low (is_told (inr (inl security))) none replies = absurd security.0
head_read number a new entries least low (is_told (inr (inr unnamed))) none replies =
    absurd (no_refusal 0x8404 (ap part_refusal (sym unnamed.2) ∙ none))
