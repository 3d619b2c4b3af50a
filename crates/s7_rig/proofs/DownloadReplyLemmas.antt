-- How a session replies to the questions of a download.
use Rattle.std.proofs.Common.{◌≡◌, inl, inr, ℕ, ◌+◌, ◌<◌, ◌≤◌, Bool, true, false, cond, eqb, ltb, List, [], ◌∷◌, ◌++◌}
use Rattle.std.proofs.Common.{length, drop, refl, ap, ap₂, sym, ◌∙◌, subst, arith, append-nil}
use Rattle.std.specs.Prelude.{Option, Some, slice_index}
use Rattle.std.proofs.lemmas.List.{length-take}
use Rattle.s7_header.specs.Negotiation.{most_pdu}
use Rattle.s7_block.specs.Kinds.{is_stored_kind}
use Rattle.s7_block.specs.Telegrams.{announce_function}
use Rattle.s7_wire.specs.Sent.{sent_message, sent_messages}
use Rattle.s7_plant.specs.declared.request.Ask.{Ask}
use Rattle.s7_plant.specs.declared.request.Request.TheVariants as plain
use Rattle.s7_plant.specs.Requests.{asked, no_room}
use Rattle.s7_plant.specs.Replies.{Said}
use Rattle.s7_dialogue.specs.Downloads.{name_in}
use Rattle.s7_block.specs.Slices.{image_room}
use Rattle.s7_dialogue.specs.Question.{Question, announces, awaits_call, gives, inserts, closing_octets, messages_of}
use Rattle.s7_dialogue.specs.Question.{is_numbered, question_octets}
use Rattle.s7_dialogue.specs.Answer.{announced, calls, refuses, stands, answer_of}
use Rattle.s7_session.specs.Errors.{FULL}
use Rattle.s7_session.specs.Events.{lives, refusal_sent}
use Rattle.s7_session.specs.Judgement.{answer_octets, plainly, refusal_octets, reply_octets, sequence_of}
use Rattle.s7_session.specs.LinkState.{LinkState, next_sequence}
use Rattle.s7_session.specs.Owed.{past, owed, entered}
use Rattle.s7_session.specs.Transfers.{finished}
use Rattle.s7_session.specs.Verdict.{Verdict, Entered, Full}
use Rattle.s7_rig.specs.Dialogues.{AreReplies}
use Rattle.s7_rig.specs.Exchanges.{GoesOn, HasTold, HoldsGiven, HoldsPieces, HoldsWhole, IsAwaited, IsHeard}
use Rattle.s7_rig.specs.Exchanges.{IsReadyFor, IsUnheard, Replies, control_heard, first_call, is_told}
use Rattle.s7_rig.specs.Exchanges.{link_past, is_refused}
use Rattle.s7_rig.specs.Settled.{Settled, Serves}
use Rattle.s7_rig.proofs.Asked.{IsAnswered, is_entered, is_full, is_failed}
use Rattle.s7_rig.proofs.Askable.{IsAskable}
use Rattle.s7_rig.proofs.AnsweredLemmas.{refusal_is_heard}
use Rattle.s7_rig.proofs.DownloadHeardLemmas.{announcement_is_heard, first_call_is_heard, insertion_is_heard}
use Rattle.s7_rig.proofs.DownloadHeardLemmas.{next_call_is_heard}
use Rattle.s7_rig.proofs.DownloadJudgedLemmas.{IsChecked, checked, finished_of, job_behind, judged_given}
use Rattle.s7_rig.proofs.DownloadJudgedLemmas.{judged_insertion, judged_stored, judged_unstored, link_behind}
use Rattle.s7_rig.proofs.DownloadJudgedLemmas.{more_follows}
use Rattle.s7_rig.proofs.DownloadServedLemmas.{IsOfDownload, closing_served}
use Rattle.s7_rig.proofs.JudgedLemmas.{question_is_s7, question_sequence}
use Rattle.s7_rig.proofs.ListFacts.{two_behind}
use Rattle.s7_rig.proofs.ReplyLemmas.{IsLeftOpen}
use Rattle.s7_rig.proofs.ServedLemmas.{ServesTo, served_asking, served_own, served_refused}
use Rattle.s7_rig.proofs.UserJudgedLemmas.{IsSent}

-- A question is asked on a link between two messages.
record IsAsked (first : LinkState) (b : List ℕ) (js : List Verdict) (pdu s : ℕ) : Type 0 where
  settled : Settled first b js (Some pdu)
  low : s < 65536
  least : 64 ≤ pdu
  most : pdu ≤ most_pdu

-- The message is short, and heard as an answer to the question, behind which these are unheard.
record IsHeardWell (pdu : ℕ) (own : List Verdict) (link : LinkState) (q : Question) (s : ℕ) (message : List ℕ)
    (behind : List (List ℕ)) (new : List (Ask × Said)) : Type 0 where
  least : 10 ≤ length message
  most : length message ≤ most_pdu
  heard : IsHeard pdu own link q s message behind new

-- a question of one message that the link answers by messages of its own
own_replied : {first : LinkState} (b : List ℕ) (js vs : List Verdict) (unheard sent behind : List (List ℕ)) (pdu s : ℕ)
    (q : Question) (m message : List ℕ) (link : LinkState) → messages_of s q ≡ m ∷ []
    → ServesTo first b js m js (Some pdu) (sent_messages 1024 sent) [] link → unheard ++ sent ≡ message ∷ behind
    → IsLeftOpen (past first b js).link pdu q → IsHeardWell pdu [] link q s message behind []
    → Replies first b js vs unheard pdu q s
own_replied {first} b js vs unheard sent behind pdu s q m message link is served order open_to well =
    let octets : sent_messages 1024 (messages_of s q) ≡ sent_message 1024 m =
    ap (sent_messages 1024) is ∙ append-nil (sent_message 1024 m) in
    let none = append-nil js in
    let leaves =
    ap (link_past first b s q) none ∙ (ap (λ x. (past first (b ++ x) js).link) octets ∙ served.leaves) in
    record {
      own = [];
      left = vs;
      split = refl;
      sent = sent;
      message = message;
      behind = behind;
      in_order = order;
      new = [];
      serves = subst
          (λ met. Serves first b js (sent_messages 1024 (messages_of s q)) met (Some pdu) (sent_messages 1024 sent) [])
          (sym none)
          (subst (λ x. Serves first b js x js (Some pdu) (sent_messages 1024 sent) []) (sym octets) served.serves);
      least = λ h. well.least;
      most = λ h. well.most;
      heard = λ h. subst (λ l. IsHeard pdu [] l q s message behind []) (sym leaves) well.heard;
      by_link = λ answer is. open_to answer;
    }

refused_well : (pdu : ℕ) (own : List Verdict) (link : LinkState) (q : Question) (s error : ℕ) → is_numbered q ≡ true
    → s < 65536 → error < 65536 → HasTold pdu own q (refuses error) [] → GoesOn link q (refuses error)
    → IsUnheard [] link q (refuses error) → IsHeardWell pdu own link q s (refusal_octets s error) [] []
refused_well pdu own link q s error numbered low small told goes_on unheard = record {
  least = omega arith;
  most = omega arith;
  heard = record {
    answer = refuses error;
    is = refusal_is_heard q s error numbered (omega (arith, low)) (omega (arith, small));
    told = told;
    goes_on = goes_on;
    unheard = unheard;
  };
}

-- what is sent where a message of this sequence is refused
refusal_is_sent : (m : List ℕ) (s error given : ℕ) → sequence_of m ≡ s → given ≡ error
    → refusal_sent 1024 (sequence_of m) given ≡ sent_messages 1024 (refusal_octets s error ∷ [])
refusal_is_sent m s error given is same =
    ap (λ n. refusal_sent 1024 n given) is
    ∙ (ap (refusal_sent 1024 s) same ∙ sym (append-nil (sent_message 1024 (refusal_octets s error))))

-- what is held where the server asks on
holds_given : (more : Bool) (link : LinkState) (image : List ℕ) (place : ℕ)
    → is_stored_kind (name_in image).kind ≡ true
    → HoldsGiven more (link_behind more link image place) image place (next_sequence link.job_sequence)
holds_given true link image place stored = record { stored = stored; download = refl; job = refl }
holds_given false link image place stored = record { stored = stored; download = refl; job = refl }

-- ---- the announcement

announced_sent : {first : LinkState} (b : List ℕ) (js : List Verdict) (pdu s : ℕ) (image : List ℕ)
    → IsAsked first b js pdu s → IsSent (past first b js).link pdu s (announces image)
announced_sent b js pdu s image on =
    record {
      numbered = refl;
      granted = on.settled.grants;
      low = on.low;
      most = on.most;
      fits = omega (arith, on.least);
    }

announced_well : (pdu : ℕ) (link : LinkState) (s : ℕ) (image : List ℕ) → s < 65536
    → is_stored_kind (name_in image).kind ≡ true
    → IsHeardWell pdu [] (link_behind true link image 0) (announces image) s
    (answer_octets s (announce_function ∷ []) []) (job_behind true link image ∷ []) []
announced_well pdu link s image low stored = record {
  least = omega arith;
  most = omega arith;
  heard = record {
    answer = announced;
    is = announcement_is_heard image s low;
    told = is_told (refl, inl refl);
    goes_on = holds_given true link image 0 stored;
    unheard = refl;
  };
}

announced_replied : {first : LinkState} (b : List ℕ) (js vs : List Verdict) (unheard : List (List ℕ)) (pdu s : ℕ)
    (image : List ℕ) (stored : Bool) → IsAsked first b js pdu s → IsChecked image → unheard ≡ []
    → is_stored_kind (name_in image).kind ≡ stored → Replies first b js vs unheard pdu (announces image) s
announced_replied {first} b js vs unheard pdu s image true on is none stored =
    let link = (past first b js).link in
    let q = announces image in
    let m = question_octets s q in
    let answer = answer_octets s (announce_function ∷ []) [] in
    let job = job_behind true link image in
    let after = link_behind true link image 0 in
    own_replied b js vs unheard (answer ∷ job ∷ []) (job ∷ []) pdu s q m answer after refl
    (served_own m on.settled (omega arith) (Some pdu) (answer ∷ job ∷ []) after refl
    (judged_stored link pdu s image (announced_sent b js pdu s image on) is stored) on.settled.grants)
    (ap (λ u. u ++ answer ∷ job ∷ []) none) (λ answer. tt) (announced_well pdu link s image on.low stored)
announced_replied {first} b js vs unheard pdu s image false on is none stored =
    let link = (past first b js).link in
    let q = announces image in
    let m = question_octets s q in
    let refusal = refusal_octets s 0x8F03 in
    let judged = judged_unstored link pdu s image (announced_sent b js pdu s image on) is stored in
    own_replied b js vs unheard (refusal ∷ []) [] pdu s q m refusal link refl
    (subst (λ out. ServesTo first b js m js (Some pdu) out [] link)
    (refusal_is_sent m s 0x8F03 _ (question_sequence s q refl) judged.2)
    (served_refused m on.settled (omega arith) judged.0 refl judged.1))
    (ap (λ u. u ++ refusal ∷ []) none) (λ answer. tt)
    (refused_well pdu [] link q s 0x8F03 refl on.low (omega arith) (is_told (refl, inr (stored, refl))) tt
    refl)

-- ---- the first call

-- the server asked for the first piece with its last answer, and nothing is sent
awaited_replied : {first : LinkState} (b : List ℕ) (js vs : List Verdict) (unheard : List (List ℕ)) (pdu s : ℕ)
    (image : List ℕ) → Settled first b js (Some pdu)
    → HoldsPieces (past first b js).link image 0 (past first b js).link.job_sequence
    → unheard ≡ first_call (past first b js).link image ∷ [] → Replies first b js vs unheard pdu (awaits_call image) s
awaited_replied {first} b js vs unheard pdu s image settled held came =
    let link = (past first b js).link in
    let same = append-nil b in
    let none = append-nil js in
    record {
      own = [];
      left = vs;
      split = refl;
      sent = [];
      message = first_call link image;
      behind = [];
      in_order = append-nil unheard ∙ came;
      new = [];
      serves = subst (λ met. Serves first b js [] met (Some pdu) [] []) (sym none)
          (record {
            settled = subst (λ x. Settled first x js (Some pdu)) (sym same) settled;
            owed = ap (λ x. owed first x js) same ∙ sym (append-nil (owed first b js));
            entered = ap (λ x. entered first x js) same ∙ sym (append-nil (entered first b js));
          });
      least = λ h. omega arith;
      most = λ h. omega arith;
      heard = λ h. record {
        answer = calls link.job_sequence;
        is = first_call_is_heard image s link.job_sequence;
        told = is_told (refl, link.job_sequence, refl);
        goes_on = subst (λ l. HoldsPieces l image 0 link.job_sequence)
            (sym (ap₂ (λ x met. (past first x met).link) same none)) held;
        unheard = refl;
      };
      by_link = λ answer is. tt;
    }

-- ---- pieces

given_well : (pdu : ℕ) (link : LinkState) (s room from call : ℕ) (image : List ℕ) (more : Bool)
    → is_stored_kind (name_in image).kind ≡ true → ltb (from + room) (length image) ≡ more
    → IsHeardWell pdu [] (link_behind more link image (from + room)) (gives image room from call) s
    (job_behind more link image) [] []
given_well pdu link s room from call image more stored is =
    let n = next_sequence link.job_sequence in
    let after = link_behind more link image (from + room) in
    record {
      least = omega arith;
      most = omega arith;
      heard = record {
        answer = calls n;
        is = ap (λ t. answer_of (gives image room from call) s (job_behind t link image))
            (sym (more_follows image room from ∙ is))
            ∙ next_call_is_heard image s n room from call;
        told = is_told (refl, n, refl);
        goes_on = subst (λ t. HoldsGiven t after image (from + room) n) (sym is)
            (holds_given more link image (from + room) stored);
        unheard = refl;
      };
    }

given_replied : {first : LinkState} (b : List ℕ) (js vs : List Verdict) (unheard : List (List ℕ)) (pdu s : ℕ)
    (image : List ℕ) (room from call : ℕ) (more : Bool) → IsAsked first b js pdu s → IsChecked image
    → room ≡ image_room pdu → HoldsPieces (past first b js).link image from call → unheard ≡ []
    → ltb (from + room) (length image) ≡ more → Replies first b js vs unheard pdu (gives image room from call) s
given_replied {first} b js vs unheard pdu s image room from call more on is fits held none follows =
    let link = (past first b js).link in
    let q = gives image room from call in
    let m = question_octets s q in
    let job = job_behind more link image in
    let after = link_behind more link image (from + room) in
    let few = length-take room (drop from image) in
    own_replied b js vs unheard (job ∷ []) [] pdu s q m job after refl
    (served_own m on.settled (omega (arith, few, fits, on.least, on.most)) (Some pdu) (job ∷ []) after
    (question_is_s7 s q)
    (judged_given link pdu s image room from call more on.settled.grants fits (omega (arith, fits, on.least)) is.most
    held follows)
    on.settled.grants)
    (ap (λ u. u ++ job ∷ []) none) (λ answer. tt)
    (given_well pdu link s room from call image more held.stored follows)

-- ---- the insertion

-- what is served behind a message that nothing is owed for
served_behind : {first : LinkState} (b x y : List ℕ) (js js' : List Verdict) (granted granted' : Option ℕ)
    (out : List ℕ) (new : List (Ask × Said)) → Serves first b js x js granted [] []
    → Serves first (b ++ x) js y js' granted' out new → Serves first b js (x ++ (y ++ [])) js' granted' out new
served_behind {first} b x y js js' granted granted' out new before behind =
    let same = two_behind b x y in
    record {
      settled = subst (λ o. Settled first o js' granted') (sym same) behind.settled;
      owed = ap (λ o. owed first o js') same
          ∙ (behind.owed ∙ ap (λ o. o ++ out) (before.owed ∙ append-nil (owed first b js)));
      entered = ap (λ o. entered first o js') same
          ∙ (behind.entered ∙ ap (λ e. e ++ new) (before.entered ∙ append-nil (entered first b js)));
    }

insertion_ends : (good : Bool) (link : LinkState) (image : List ℕ) (call status error : ℕ)
    → GoesOn link (inserts image call) (cond good (stands status) (refuses error))
insertion_ends true link image call status error = tt
insertion_ends false link image call status error = tt

-- what an insertion asks, with a right or without
abbrev insertion_asked : Bool → List ℕ → Ask
insertion_asked right image =
    asked right (plain.Insert (name_in image).kind (name_in image).number image no_room)

-- whatever state gives its reply, it is heard
inserted_well : (pdu : ℕ) (own : List Verdict) (link : LinkState) (s call : ℕ) (image : List ℕ) (right : Bool)
    (reply : Said) → s < 65536 → AreReplies ((insertion_asked right image, reply) ∷ [])
    → IsHeardWell pdu own link (inserts image call) s (reply_octets s reply) []
    ((insertion_asked right image, reply) ∷ [])
inserted_well pdu own link s call image right reply low given =
    let name = name_in image in
    let is =
    insertion_is_heard given.0.0 right image call s name.kind name.number image no_room reply low given.0.1 in
    record {
      least = is.least;
      most = is.most;
      heard = record {
        answer = control_heard reply;
        is = is.is;
        told = is_told (right, reply, refl, refl);
        goes_on = insertion_ends (eqb reply.error 0) link image call (slice_index reply.params 1) reply.error;
        unheard = refl;
      };
    }

-- a question behind the answer that closes a download
closed_replied : {first : LinkState} (b : List ℕ) (js vs own left : List Verdict) (unheard : List (List ℕ))
    (pdu s call : ℕ) (image message : List ℕ) (new : List (Ask × Said)) → vs ≡ own ++ left → unheard ≡ []
    → Serves first b js (sent_message 1024 (closing_octets call)) js (Some pdu) [] []
    → Serves first (b ++ sent_message 1024 (closing_octets call)) js
    (sent_message 1024 (question_octets s (inserts image call))) (js ++ own) (Some pdu)
    (sent_messages 1024 (message ∷ [])) new
    → ((link : LinkState) → AreReplies new → IsHeardWell pdu own link (inserts image call) s message [] new)
    → Replies first b js vs unheard pdu (inserts image call) s
closed_replied {first} b js vs own left unheard pdu s call image message new split none closes serves well =
    let q = inserts image call in
    let met = js ++ own in
    let link = link_past first b s q met in
    let x = sent_message 1024 (closing_octets call) in
    let y = sent_message 1024 (question_octets s q) in
    record {
      own = own;
      left = left;
      split = split;
      sent = message ∷ [];
      message = message;
      behind = [];
      in_order = ap (λ u. u ++ message ∷ []) none;
      new = new;
      serves = served_behind b x y js met (Some pdu) (Some pdu) (sent_messages 1024 (message ∷ [])) new closes serves;
      least = λ h. (well link h).least;
      most = λ h. (well link h).most;
      heard = λ h. (well link h).heard;
      by_link = λ answer is. tt;
    }

inserted_replied : {first : LinkState} (b : List ℕ) (js vs : List Verdict) (unheard : List (List ℕ)) (pdu s call : ℕ)
    (image : List ℕ) (link : LinkState) → s < 65536 → unheard ≡ []
    → Serves first b js (sent_message 1024 (closing_octets call)) js (Some pdu) [] []
    → IsAnswered first (b ++ sent_message 1024 (closing_octets call)) js (question_octets s (inserts image call)) vs
    (Some pdu) (plainly link s (plain.Insert (name_in image).kind (name_in image).number image no_room))
    → Replies first b js vs unheard pdu (inserts image call) s
inserted_replied b js vs unheard pdu s call image link low none closes (is_entered reply moment rest is serves after) =
    let own : List Verdict = Entered reply moment ∷ [] in
    closed_replied b js vs own rest unheard pdu s call image (reply_octets s reply)
    ((insertion_asked link.right image, reply) ∷ []) is none closes serves
    (λ after given. inserted_well pdu own after s call image link.right reply low given)
inserted_replied {first} b js vs unheard pdu s call image link low none closes (is_full rest is serves) =
    let q = inserts image call in
    let m = question_octets s q in
    let x = sent_message 1024 (closing_octets call) in
    let own : List Verdict = Full ∷ [] in
    closed_replied b js vs own rest unheard pdu s call image (refusal_octets s FULL) [] is none closes
    (subst (λ out. Serves first (b ++ x) js (sent_message 1024 m) (js ++ own) (Some pdu) out [])
    (refusal_is_sent m s FULL FULL (question_sequence s q refl) refl) serves)
    (λ after given. refused_well pdu own after q s FULL refl low (omega arith)
    (is_refused FULL (inl (tt, refl)) refl refl) tt refl)
inserted_replied b js vs unheard pdu s call image link low none closes (is_failed rest is timed serves) = absurd (cc)

insertion_replied : {first : LinkState} (b : List ℕ) (js vs : List Verdict) (unheard : List (List ℕ)) (pdu s call : ℕ)
    (image : List ℕ) → IsAsked first b js pdu s → IsChecked image → HoldsWhole (past first b js).link image call
    → unheard ≡ []
    → (past first (b ++ sent_messages 1024 (messages_of s (inserts image call))) (js ++ vs)).standing ≡ lives
    → Replies first b js vs unheard pdu (inserts image call) s
insertion_replied {first} b js vs unheard pdu s call image on is held none live =
    let q = inserts image call in
    let m = question_octets s q in
    let x = sent_message 1024 (closing_octets call) in
    let closing = closing_served b js pdu call image on.settled held in
    let link = (past first (b ++ x) js).link in
    let name = name_in image in
    let holds = ap (λ (l : LinkState). finished l.download name.kind name.number) closing.1
    ∙ finished_of (past first b js).link image call held in
    let judged = judged_insertion link pdu s call image
    (record {
      numbered = refl;
      granted = closing.0.settled.grants;
      low = on.low;
      most = on.most;
      fits = omega (arith, on.least);
    })
    is held.stored holds in
    inserted_replied b js vs unheard pdu s call image link on.low none closing.0
    (served_asking m closing.0.settled (omega arith) vs
    (plainly link s (plain.Insert name.kind name.number image no_room)) refl judged (λ reply. refl)
    (ap (λ o. (past first o (js ++ vs)).standing) (sym (two_behind b x (sent_message 1024 m))) ∙ live))

-- ---- all of them

-- a question of a download is answered on a link that is ready for it
pub download_replied : {first : LinkState} (b : List ℕ) (js vs : List Verdict) (unheard : List (List ℕ)) (pdu s : ℕ)
    (q : Question) → IsOfDownload q → Settled first b js (Some pdu) → s < 65536 → 64 ≤ pdu → pdu ≤ most_pdu
    → IsAskable pdu q → IsReadyFor (past first b js).link q → IsAwaited unheard (past first b js).link q
    → (past first (b ++ sent_messages 1024 (messages_of s q)) (js ++ vs)).standing ≡ lives
    → Replies first b js vs unheard pdu q s
download_replied b js vs unheard pdu s (announces image) of settled low least most can ready awaited live =
    announced_replied b js vs unheard pdu s image (is_stored_kind (name_in image).kind)
    (record { settled = settled; low = low; least = least; most = most }) (checked image can) awaited refl
download_replied b js vs unheard pdu s (awaits_call image) of settled low least most can ready awaited live =
    awaited_replied b js vs unheard pdu s image settled ready awaited
download_replied b js vs unheard pdu s (gives image room from call) of settled low least most can ready awaited live =
    given_replied b js vs unheard pdu s image room from call (ltb (from + room) (length image))
    (record { settled = settled; low = low; least = least; most = most }) (checked image can.0) can.1 ready awaited refl
download_replied b js vs unheard pdu s (inserts image call) of settled low least most can ready awaited live =
    insertion_replied b js vs unheard pdu s call image
    (record { settled = settled; low = low; least = least; most = most }) (checked image can) ready awaited live
download_replied b js vs unheard pdu s _ of settled low least most can ready awaited live = absurd of
