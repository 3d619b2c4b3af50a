-- What a download asks of its link: that it holds what came of the image so far, and awaits the rest. Where the server is
-- to ask for the first piece, it has asked before.
use Rattle.std.proofs.Common.{◌≡◌, inl, inr, ℕ, ◌+◌, ◌*◌, ◌<◌, Bool, true, false, cond, ltb, Option, None, Some, List, [], ◌∷◌, ◌++◌, length, refl, ap, ap₂, sym, ◌∙◌, subst, arith, length-append}
use Rattle.std.proofs.lemmas.Bool.{lt-ltb}
use Rattle.s7_plant.specs.declared.request.Ask.{Ask}
use Rattle.s7_plant.specs.Replies.{Said}
use Rattle.s7_dialogue.specs.Question.{Question, announces, awaits_call, gives, inserts}
use Rattle.s7_dialogue.specs.Answer.{Answer, announced, calls, refuses}
use Rattle.s7_dialogue.specs.Refusals.{number_of_error, download_refusal}
use Rattle.s7_dialogue.specs.Dialogue.{last_answer, behind_server, next_given}
use Rattle.s7_dialogue.proofs.FlightLemmas.{same_some}
use Rattle.s7_session.specs.LinkState.{LinkState}
use Rattle.s7_session.specs.Verdict.{Verdict}
use Rattle.s7_rig.specs.Exchanges.{IsReadyFor, HoldsPieces, HoldsGiven, IsAwaited, IsUnheard, GoesOn, HasTold}
use Rattle.s7_rig.specs.Exchanges.{is_refused, is_told}
use Rattle.s7_rig.proofs.DownloadAsksLemmas.{of_server}
use Rattle.s7_rig.proofs.HoldPieces.{last_more}

-- the link is ready for the question, before which these messages are unheard
abbrev pub IsNext : List (List ℕ) → LinkState → Question → Type 0
IsNext unheard link q = IsReadyFor link q × IsAwaited unheard link q

-- ---- behind the announcement

not_refused : (error : ℕ) (answer : Answer) → answer ≡ refuses error → download_refusal answer ≡ None → ⊥
not_refused error answer is good =
    let refused : download_refusal answer ≡ Some (number_of_error error) = ap download_refusal is in
    absurd (cc)

-- an announcement that isn't refused has begun the download
begun_by : {pdu : ℕ} {own : List Verdict} (answer : Answer) (new : List (Ask × Said)) (image : List ℕ)
    → HasTold pdu own (announces image) answer new → download_refusal answer ≡ None → answer ≡ announced
begun_by answer new image (is_refused error undone none is) good = absurd (not_refused error answer is good)
begun_by answer new image (is_told t) good =
    elim t.1 [ inl is ↦ is | inr unstored ↦ absurd (not_refused 0x8F03 answer unstored.1 good) ]

begun_next : (link : LinkState) (behind : List (List ℕ)) (image : List ℕ) (answer : Answer) (next : Question)
    → answer ≡ announced → GoesOn link (announces image) answer → IsUnheard behind link (announces image) answer
    → Some (awaits_call image) ≡ Some next → IsNext behind link next
begun_next link behind image answer next begun goes unheard is =
    subst (IsNext behind link) (same_some (awaits_call image) next is)
    (subst (GoesOn link (announces image)) begun goes, subst (IsUnheard behind link (announces image)) begun unheard)

-- ---- behind a job of the server's

module _ (link : LinkState) (image : List ℕ) (room : ℕ) (next : Question) where
  -- by what the link holds
  call_next : (behind : List (List ℕ)) (from call : ℕ) (more : Bool) → behind ≡ []
      → HoldsGiven more link image from call
      → Some (cond more (gives image room from call) (inserts image call)) ≡ Some next → IsNext behind link next
  call_next behind from call true none holds is =
      subst (IsNext behind link) (same_some (gives image room from call) next is) (holds, none)
  call_next behind from call false none holds is =
      subst (IsNext behind link) (same_some (inserts image call) next is) (holds, none)

  -- the first piece
  first_next : (behind : List (List ℕ)) (from : ℕ) (answer : Answer) → from ≡ 0 → 0 < length image
      → GoesOn link (awaits_call image) answer → IsUnheard behind link (awaits_call image) answer
      → behind_server image room from (Some answer) ≡ Some next → IsNext behind link next
  first_next behind from (calls call) none some goes unheard is =
      let more : ltb from (length image) ≡ true =
      lt-ltb from (length image) (subst (λ n. n < length image) (sym none) some) in
      call_next behind from call true unheard (subst (λ n. HoldsPieces link image n call) (sym none) goes)
      (ap (λ b. Some (cond b (gives image room from call) (inserts image call))) (sym more) ∙ is)
  first_next behind from _ none some goes unheard is = absurd (cc)

  -- behind a piece the next one, or the insertion
  piece_next : (behind : List (List ℕ)) (from call : ℕ) (answer : Answer)
      → GoesOn link (gives image room from call) answer → IsUnheard behind link (gives image room from call) answer
      → behind_server image room (from + room) (Some answer) ≡ Some next → IsNext behind link next
  piece_next behind from call (calls other) goes unheard is =
      call_next behind (from + room) other (ltb (from + room) (length image)) unheard goes is
  piece_next behind from call _ goes unheard is = absurd (cc)

  -- and nothing behind an insertion
  none_behind : (from call : ℕ) (answer : Answer) → GoesOn link (inserts image call) answer
      → behind_server image room from (Some answer) ≡ Some next → ⊥
  none_behind from call (calls other) goes is = goes
  none_behind from call _ goes is = absurd (cc)

  -- ---- behind the answer to what was asked there

  asked_next : (behind : List (List ℕ)) (from call : ℕ) (more : Bool) (q : Question) (answer : Answer)
      → Some (cond more (gives image room from call) (inserts image call)) ≡ Some q → GoesOn link q answer
      → IsUnheard behind link q answer → behind_server image room (from + room) (Some answer) ≡ Some next
      → IsNext behind link next
  asked_next behind from call true q answer asked goes unheard is =
      let same = sym (same_some (gives image room from call) q asked) in
      piece_next behind from call answer (subst (λ x. GoesOn link x answer) same goes)
      (subst (λ x. IsUnheard behind link x answer) same unheard) is
  asked_next behind from call false q answer asked goes unheard is =
      let same = sym (same_some (inserts image call) q asked) in
      absurd (none_behind (from + room) call answer (subst (λ x. GoesOn link x answer) same goes) is)

  last_next : (behind : List (List ℕ)) (from : ℕ) (last : Option Answer) (q : Question) (answer : Answer)
      → behind_server image room from last ≡ Some q → GoesOn link q answer → IsUnheard behind link q answer
      → behind_server image room (from + room) (Some answer) ≡ Some next → IsNext behind link next
  last_next behind from (Some (calls call)) q answer asked goes unheard is =
      asked_next behind from call (ltb from (length image)) q answer asked goes unheard is
  last_next behind from _ q answer asked goes unheard is = absurd (cc)

  -- a piece more was given
  given_more : (answers : List (Option Answer)) (answer : Option Answer)
      → room * length (answers ++ answer ∷ []) ≡ room * length answers + room
  given_more answers answer = ap (λ n. room * n) (length-append answers (answer ∷ [])) ∙ omega arith

  -- A link that goes on from the answer to one question is ready for the next.
  pub given_next : (behind : List (List ℕ)) (pdu : ℕ) (own : List Verdict) (answers : List (Option Answer))
      (q : Question) (answer : Answer) (new : List (Ask × Said)) → 0 < length image
      → next_given image room answers ≡ Some q → HasTold pdu own q answer new → download_refusal answer ≡ None
      → GoesOn link q answer → IsUnheard behind link q answer
      → next_given image room (answers ++ Some answer ∷ []) ≡ Some next → IsNext behind link next
  given_next behind pdu own [] q answer new some asked told good goes unheard is =
      let same = sym (same_some (announces image) q asked) in
      begun_next link behind image answer next
      (begun_by answer new image (subst (λ x. HasTold pdu own x answer new) same told) good)
      (subst (λ x. GoesOn link x answer) same goes) (subst (λ x. IsUnheard behind link x answer) same unheard) is
  given_next behind pdu own (first ∷ []) q answer new some asked told good goes unheard is =
      let same = sym (same_some (awaits_call image) q asked) in
      first_next behind (room * 0) answer (omega arith) some
      (subst (λ x. GoesOn link x answer) same goes) (subst (λ x. IsUnheard behind link x answer) same unheard) is
  given_next behind pdu own (first ∷ second ∷ answers) q answer new some asked told good goes unheard is =
      last_next behind (room * length answers) (last_answer second answers) q answer asked goes unheard
      (ap₂ (behind_server image room) (sym (given_more answers (Some answer)))
      (sym (last_more second answers (Some answer))) ∙ is)

-- ---- behind the last answer

-- where nothing is asked behind an announcement it is refused
none_begun : (link : LinkState) (behind : List (List ℕ)) (image : List ℕ) (answer : Answer)
    → IsUnheard behind link (announces image) answer
    → (download_refusal answer ≡ None → Some (awaits_call image) ≡ None) → behind ≡ []
none_begun link behind image announced unheard last =
    let none = last refl in
    absurd (cc)
none_begun link behind image _ unheard last = unheard

-- Where nothing is asked behind an answer that refuses nothing, nothing is unheard.
pub given_last : (link : LinkState) (behind : List (List ℕ)) (image : List ℕ) (room : ℕ)
    (answers : List (Option Answer)) (q : Question) (answer : Answer) → next_given image room answers ≡ Some q
    → IsUnheard behind link q answer
    → (download_refusal answer ≡ None → next_given image room (answers ++ Some answer ∷ []) ≡ None) → behind ≡ []
given_last link behind image room [] q answer asked unheard last =
    none_begun link behind image answer
    (subst (λ x. IsUnheard behind link x answer) (sym (same_some (announces image) q asked)) unheard) last
given_last link behind image room (first ∷ []) q answer asked unheard last =
    subst (λ x. IsUnheard behind link x answer) (sym (same_some (awaits_call image) q asked)) unheard
given_last link behind image room (first ∷ second ∷ answers) q answer asked unheard last =
    of_server (λ x. IsUnheard behind link x answer → behind ≡ []) image room (λ from call less none. none)
    (λ call none. none) (room * length answers) (last_answer second answers) q asked unheard
