-- How a session replies to the questions of an upload.
use Rattle.std.proofs.Common.{◌≡◌, inl, inr, ℕ, ◌<◌, ◌≤◌, Bool, true, false, cond, eqb, ltb, List, [], ◌∷◌, ◌++◌, length, take}
use Rattle.std.proofs.Common.{Option, None, Some, refl, ap, sym, ◌∙◌, subst, arith}
use Rattle.std.proofs.lemmas.Bool.{ltb-false}
use Rattle.s7_header.specs.Negotiation.{most_pdu}
use Rattle.s7_area.specs.Guards.{is_read_barred}
use Rattle.s7_block.specs.declared.block.BlockName.{BlockName}
use Rattle.s7_block.specs.Sides.{is_held}
use Rattle.s7_block.specs.Slices.{first_piece, left_behind}
use Rattle.s7_plant.specs.declared.request.Request.TheVariants as plain
use Rattle.s7_plant.specs.Answers as plant
use Rattle.s7_plant.specs.Answers.{image_in, refused, upload_params, upload_told}
use Rattle.s7_plant.specs.Replies.{Said, said}
use Rattle.s7_plant.specs.State.{State}
use Rattle.s7_dialogue.specs.Question.{starts_upload, slices_upload, ends_upload}
use Rattle.s7_dialogue.specs.Answer.{refuses, uploads, slices, uploaded, answer_of}
use Rattle.s7_dialogue.proofs.FlightLemmas.{same_some}
use Rattle.s7_session.specs.LinkState.{LinkState, next_octet}
use Rattle.s7_session.specs.Owed.{past}
use Rattle.s7_session.specs.Judgement.{answer_octets, by_upload, refusal_octets, slice_answer, upload_reply}
use Rattle.s7_session.specs.Transfers.{end_function, with_id, with_upload}
use Rattle.s7_block.specs.Slices.{image_room}
use Rattle.s7_session.specs.Verdict.{Verdict}
use Rattle.s7_rig.specs.Exchanges.{HoldsImage, GoesOn, is_told}
use Rattle.s7_rig.specs.Exchanges.{uploaded_of, upload_heard}
use Rattle.s7_rig.proofs.AnsweredLemmas.{refusal_is_heard}
use Rattle.s7_rig.proofs.RepliedLemmas.{IsServed, is_sent, asking_replied, link_replied, refused_replied}
use Rattle.s7_rig.proofs.ReplyLemmas.{RepliesOnce, IsGood, IsAskedWell}
use Rattle.s7_rig.proofs.UploadHeardLemmas.{start_is_heard, slice_is_heard, length-slice, rest_is_held, end_is_heard}
use Rattle.s7_rig.proofs.UploadJudgedLemmas.{judged_start, judged_slice, judged_end}

-- ---- the replies of a plant

-- A reply to the start of an upload: an image that isn't too long, or an error word.
data IsOfStart (reply : Said) : Type 0 where
  is_image : (image : List ℕ) → length image ≤ 65572 → reply ≡ said 0 (upload_params (length image)) image
      → IsOfStart reply
  is_error : (error : ℕ) → eqb error 0 ≡ false → error < 65536 → reply ≡ refused error → IsOfStart reply

image_by : (long : Bool) (image : List ℕ) → ltb 65572 (length image) ≡ long
    → IsOfStart (cond long (refused 0x8F04) (said 0 (upload_params (length image)) image))
image_by true image is = is_error 0x8F04 refl (omega arith) refl
image_by false image is = is_image image (ltb-false 65572 (length image) is) refl

start_told : (found : Option (List ℕ)) → IsOfStart (upload_told found)
start_told None = is_error 0xD209 refl (omega arith) refl
start_told (Some image) = image_by (ltb 65572 (length image)) image refl

start_by : (barred : Bool) (reply : Said) → IsOfStart reply → IsOfStart (cond barred (refused 0xD241) reply)
start_by true reply of = is_error 0xD241 refl (omega arith) refl
start_by false reply of = of

reply_of_start : (state : State) (right : Bool) (kind number : ℕ)
    → IsOfStart (plant.answer state right (plain.StartUpload kind number))
reply_of_start state right kind number =
    start_by (is_read_barred state.memory.guard right) _ (start_told (image_in state kind number))

-- ---- the start

keeps_grant : (good : Bool) (link with : LinkState) → with.granted ≡ link.granted
    → (cond good with link).granted ≡ link.granted
keeps_grant true link with same = same
keeps_grant false link with same = refl

-- The message that is made of the reply is short, it is heard as the reply says, and the image is held.
record IsStartHeard (name : BlockName) (s : ℕ) (link : LinkState) (reply : Said) : Type 0 where
  least : 10 ≤ length (upload_reply link s reply)
  most : length (upload_reply link s reply) ≤ most_pdu
  is : answer_of (starts_upload name) s (upload_reply link s reply)
      ≡ Some (upload_heard (next_octet link.upload_id) reply)
  goes_on : GoesOn (with_upload link reply) (starts_upload name) (upload_heard (next_octet link.upload_id) reply)

error_heard : (name : BlockName) (s error : ℕ) (link : LinkState) → s < 65536 → error < 65536 → eqb error 0 ≡ false
    → IsStartHeard name s link (refused error)
error_heard name s error link low small bad =
    let id = next_octet link.upload_id in
    let reply = refused error in
    let message : upload_reply link s reply ≡ refusal_octets s error =
    ap (λ b. cond b (answer_octets s (with_id [] id) []) (refusal_octets s error)) bad in
    let heard : upload_heard id reply ≡ refuses error = ap (λ b. cond b (uploads id 0) (refuses error)) bad in
    record {
      least = subst (λ (octets : List ℕ). 10 ≤ length octets) (sym message) (omega arith);
      most = subst (λ (octets : List ℕ). length octets ≤ most_pdu) (sym message) (omega arith);
      is = ap (answer_of (starts_upload name) s) message
          ∙ (refusal_is_heard (starts_upload name) s error refl (omega (arith, low)) (omega (arith, small))
          ∙ ap Some (sym heard));
      goes_on = subst (λ answer. GoesOn (with_upload link reply) (starts_upload name) answer) (sym heard) tt;
    }

start_heard : (name : BlockName) (s : ℕ) (link : LinkState) (reply : Said) → s < 65536 → IsOfStart reply
    → IsStartHeard name s link reply
start_heard name s link reply low (is_image image most is) =
    subst (IsStartHeard name s link) (sym is)
    (record {
      least = omega arith;
      most = omega arith;
      is = start_is_heard name s (next_octet link.upload_id) (length image) low most;
      goes_on = record { rest = image; is = refl; whole = refl; most = most };
    })
start_heard name s link reply low (is_error error bad small is) =
    subst (IsStartHeard name s link) (sym is) (error_heard name s error link low small bad)

-- whatever state gives the reply, it is heard
start_well : (pdu : ℕ) (link : LinkState) (s : ℕ) (name block : BlockName) → s < 65536
    → uploaded_of name ≡ Some block → IsAskedWell pdu (starts_upload name) s (by_upload link s block)
start_well pdu link s name block low names = record {
  message = upload_reply link s;
  messages = λ reply. refl;
  good = λ moment reply state gives for.
      let of = subst IsOfStart (sym gives) (reply_of_start state link.right block.kind block.number) in
      let heard = start_heard name s link reply low of in
      record {
        least = heard.least;
        most = heard.most;
        heard = record {
          answer = upload_heard (next_octet link.upload_id) reply;
          is = heard.is;
          told = is_told (inl (block, next_octet link.upload_id, names, (link.right, reply, refl, refl)));
          goes_on = heard.goes_on;
        };
      };
}

-- a name of no block is refused
pub start_replied : {first : LinkState} (b : List ℕ) (js vs : List Verdict) (pdu s : ℕ) (name : BlockName)
    (block : Option BlockName) → IsServed first b js vs pdu s (starts_upload name) → uploaded_of name ≡ block
    → RepliesOnce first b js vs pdu (starts_upload name) s
start_replied {first} b js vs pdu s name (Some block) served is =
    let link = (past first b js).link in
    asking_replied served (by_upload link s block)
    (judged_start link pdu s name (Some block) (is_sent served) is)
    (λ reply. keeps_grant (eqb reply.error 0) link _ refl)
    (λ answer. tt) (start_well pdu link s name block served.low is)
start_replied {first} b js vs pdu s name None served is =
    refused_replied served 0x8404
    (_, judged_start (past first b js).link pdu s name None (is_sent served) is, refl) (omega arith)
    (λ answer. tt) (is_told (inr (is, refl, refl)))

-- ---- slices

slice_good : (link : LinkState) (pdu s id size : ℕ) (so_far rest : List ℕ) → s < 65536
    → 64 ≤ pdu → pdu ≤ most_pdu → length (so_far ++ rest) ≡ size → size ≤ 65572
    → link.upload ≡ Some (record { id = id; left = left_behind (image_room pdu) rest })
    → IsGood pdu [] link (slices_upload id size so_far) s (slice_answer s (first_piece (image_room pdu) rest)) []
slice_good link pdu s id size so_far rest low least few whole most held =
    let room = image_room pdu in
    let long = length-slice s room rest in
    record {
      least = omega (arith, long.0);
      most = omega (arith, long.1, least, few);
      heard = record {
        answer = slices (ltb room (length rest)) (take room rest);
        is = slice_is_heard s id size room so_far rest low (omega (arith, least)) (omega (arith, few)) whole most;
        told = is_told (refl, rest, whole, refl);
        goes_on = rest_is_held link id size room so_far rest (ltb room (length rest)) held whole most refl;
      };
    }

pub slice_replied : {first : LinkState} (b : List ℕ) (js vs : List Verdict) (pdu s id size : ℕ) (so_far : List ℕ)
    → IsServed first b js vs pdu s (slices_upload id size so_far)
    → HoldsImage (past first b js).link id size so_far → RepliesOnce first b js vs pdu (slices_upload id size so_far) s
slice_replied {first} b js vs pdu s id size so_far served h =
    let link = (past first b js).link in
    let room = image_room pdu in
    let after = record link { upload = Some (record { id = id; left = left_behind room h.rest }) } in
    link_replied served (slice_answer s (first_piece room h.rest)) after
    (judged_slice link pdu s id size so_far (is_sent served) h) served.settled.grants
    (λ answer is. (
      h.rest,
      h.is,
      same_some _ _
          (sym is
          ∙ slice_is_heard s id size room so_far h.rest served.low (omega (arith, served.least))
          (omega (arith, served.most)) h.whole h.most),
    ))
    (slice_good after pdu s id size so_far h.rest served.low served.least served.most h.whole h.most refl)

-- ---- the end

end_good : (pdu : ℕ) (link : LinkState) (s id : ℕ) → s < 65536
    → IsGood pdu [] link (ends_upload id) s (answer_octets s (end_function ∷ []) []) []
end_good pdu link s id low = record {
  least = omega arith;
  most = omega arith;
  heard = record {
    answer = uploaded;
    is = end_is_heard s id low;
    told = is_told (refl, refl);
    goes_on = tt;
  };
}

pub end_replied : {first : LinkState} (b : List ℕ) (js vs : List Verdict) (pdu s id : ℕ)
    → IsServed first b js vs pdu s (ends_upload id) → is_held (past first b js).link.upload id ≡ true
    → RepliesOnce first b js vs pdu (ends_upload id) s
end_replied {first} b js vs pdu s id served held =
    let link = (past first b js).link in
    let after = record link { upload = None } in
    link_replied served (answer_octets s (end_function ∷ []) []) after
    (judged_end link pdu s id (is_sent served) held) served.settled.grants
    (λ answer is. tt) (end_good pdu after s id served.low)
