-- What a client hears of a control.
use Rattle.std.proofs.Common.{◌≡◌, ℕ, ◌<◌, ◌≤◌, Bool, true, false, ◌&&◌, cond, List, [], ◌∷◌, length, Some, refl, ap}
use Rattle.std.proofs.Common.{inl, sym, ◌∙◌, subst, arith}
use Rattle.std.specs.Prelude.{None}
use Rattle.std.proofs.lemmas.Bool.{eq-eqb}
use Rattle.s7_clock.specs.declared.control.Control.{Control}
use Rattle.s7_clock.specs.declared.control.Control.TheVariants as control
use Rattle.s7_header.specs.Negotiation.{most_pdu}
use Rattle.s7_plant.specs.declared.request.Request.{Request}
use Rattle.s7_plant.specs.declared.request.Request.TheVariants as plain
use Rattle.s7_plant.specs.Answers as plant
use Rattle.s7_plant.specs.Answers.{controlled, refused, guarded, is_barred, start_status, stop_status}
use Rattle.s7_plant.specs.Requests.{asked}
use Rattle.s7_plant.specs.Replies.{Said}
use Rattle.s7_plant.specs.State.{State}
use Rattle.s7_dialogue.specs.Question.{controls}
use Rattle.s7_dialogue.specs.Answer.{stands, function_of, answer_of}
use Rattle.s7_dialogue.proofs.FlightLemmas.{same_some}
use Rattle.s7_session.specs.LinkState.{LinkState}
use Rattle.s7_session.specs.Judgement.{reply_octets, plainly}
use Rattle.s7_rig.specs.Exchanges.{control_heard, is_told, request_of}
use Rattle.s7_rig.proofs.AnsweredLemmas.{answer_is_heard, refusal_is_heard}
use Rattle.s7_rig.proofs.DeleteLemmas.{deletion}
use Rattle.s7_rig.proofs.ReplyLemmas.{IsAskedWell}

-- ---- the replies of a plant

-- A reply to a control with this function: a status, that a right is wanted, or that there is no such block.
data IsOfControl (function : ℕ) (reply : Said) : Type 0 where
  is_done : (status : ℕ) → reply ≡ controlled function status → IsOfControl function reply
  is_barred_from : reply ≡ refused 0xD241 → IsOfControl function reply
  is_lacking : reply ≡ refused 0xD209 → IsOfControl function reply

barred_by : (barred : Bool) (function status : ℕ)
    → IsOfControl function (cond barred (refused 0xD241) (controlled function status))
barred_by true function status = is_barred_from refl
barred_by false function status = is_done status refl

guarded_by : (state : State) (right : Bool) (function status : ℕ)
    → IsOfControl function (guarded state right (controlled function status))
guarded_by state right function status = barred_by (is_barred state right) function status

deleted_by : (barred found : Bool) (function : ℕ)
    → IsOfControl function (cond barred (refused 0xD241) (cond found (controlled function 0x00) (refused 0xD209)))
deleted_by true found function = is_barred_from refl
deleted_by false true function = is_done 0x00 refl
deleted_by false false function = is_lacking refl

-- what some state replies to what a control asks
asks_control : (c : Control) (request asks : Request) (state : State) (right : Bool) → request_of c ≡ Some request
    → request_of c ≡ Some asks → IsOfControl (function_of c) (plant.answer state right asks)
    → IsOfControl (function_of c) (plant.answer state right request)
asks_control c request asks state right asked same of =
    subst (λ r. IsOfControl (function_of c) (plant.answer state right r)) (same_some asks request (sym same ∙ asked)) of

reply_of_control : (c : Control) (request : Request) (state : State) (right : Bool) → request_of c ≡ Some request
    → IsOfControl (function_of c) (plant.answer state right request)
reply_of_control control.Start request state right asked =
    asks_control control.Start request (plain.Start false) state right asked refl
    (guarded_by state right 0x28 (start_status state.running))
reply_of_control control.ColdStart request state right asked =
    asks_control control.ColdStart request (plain.Start true) state right asked refl
    (guarded_by state right 0x28 (start_status state.running))
reply_of_control control.Stop request state right asked =
    asks_control control.Stop request plain.Stop state right asked refl
    (guarded_by state right 0x29 (stop_status state.running))
reply_of_control control.Compress request state right asked =
    asks_control control.Compress request plain.Compress state right asked refl (guarded_by state right 0x28 0x00)
reply_of_control control.CopyRam request state right asked =
    asks_control control.CopyRam request plain.CopyRam state right asked refl (guarded_by state right 0x28 0x00)
reply_of_control (control.Insert kind number) request state right asked = absurd (cc)
reply_of_control (control.Delete kind number) request state right asked =
    subst (λ r. IsOfControl 0x28 (plant.answer state right r)) (deletion kind number request asked).is
    (deleted_by (is_barred state right) _ 0x28)

-- ---- what is heard of them

-- The octets of the reply are short, and heard as it says.
record IsControlHeard (c : Control) (s : ℕ) (reply : Said) : Type 0 where
  least : 10 ≤ length (reply_octets s reply)
  most : length (reply_octets s reply) ≤ most_pdu
  is : answer_of (controls c) s (reply_octets s reply) ≡ Some (control_heard reply)

done_heard : (c : Control) (s status : ℕ) → s < 65536 → IsControlHeard c s (controlled (function_of c) status)
done_heard c s status low =
    let params : List ℕ = function_of c ∷ status ∷ [] in
    record {
      least = omega arith;
      most = omega arith;
      is = answer_is_heard (controls c) s params [] refl (omega (arith, low)) (omega arith) (omega arith)
          ∙ ap (λ t. cond (t && true) (Some (stands status)) None) (eq-eqb (function_of c) (function_of c) refl);
    }

lacking_heard : (c : Control) (s : ℕ) → s < 65536 → IsControlHeard c s (refused 0xD209)
lacking_heard c s low = record {
  least = omega arith;
  most = omega arith;
  is = refusal_is_heard (controls c) s 0xD209 refl (omega (arith, low)) (omega arith);
}

barred_heard : (c : Control) (s : ℕ) → s < 65536 → IsControlHeard c s (refused 0xD241)
barred_heard c s low = record {
  least = omega arith;
  most = omega arith;
  is = refusal_is_heard (controls c) s 0xD241 refl (omega (arith, low)) (omega arith);
}

heard_by_kind : (c : Control) (s : ℕ) (reply : Said) → s < 65536 → IsOfControl (function_of c) reply
    → IsControlHeard c s reply
heard_by_kind c s reply low (is_done status is) = subst (IsControlHeard c s) (sym is) (done_heard c s status low)
heard_by_kind c s reply low (is_barred_from is) = subst (IsControlHeard c s) (sym is) (barred_heard c s low)
heard_by_kind c s reply low (is_lacking is) = subst (IsControlHeard c s) (sym is) (lacking_heard c s low)

-- whatever state gives the reply to a control, it is heard
pub control_well : (pdu : ℕ) (link : LinkState) (s : ℕ) (c : Control) (request : Request) → s < 65536
    → request_of c ≡ Some request → IsAskedWell pdu (controls c) s (plainly link s request)
control_well pdu link s c request low is = record {
  message = reply_octets s;
  messages = λ reply. refl;
  good = λ moment reply state gives for.
      let of = subst (IsOfControl (function_of c)) (sym gives) (reply_of_control c request state link.right is) in
      let heard = heard_by_kind c s reply low of in
      record {
        least = heard.least;
        most = heard.most;
        heard = record {
          answer = control_heard reply;
          is = heard.is;
          told = is_told (inl (request, is, (link.right, reply, refl, refl)));
          goes_on = tt;
        };
      };
}
