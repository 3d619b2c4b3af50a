-- What a client hears of the reply to user data, and what is left of it on the link.
use Rattle.std.proofs.Common.{◌≡◌, ℕ, ◌<◌, ◌≤◌, Bool, true, false, cond, eqb, ltb, List, [], length, take, Some, refl}
use Rattle.std.proofs.Common.{inl, sym, subst, arith}
use Rattle.std.specs.Prelude.{None}
use Rattle.std.proofs.lemmas.Bool.{eqb-true}
use Rattle.s7_header.specs.Negotiation.{most_pdu}
use Rattle.s7_plant.specs.declared.request.Request.{Request}
use Rattle.s7_plant.specs.Answers as plant
use Rattle.s7_plant.specs.Replies.{Said}
use Rattle.s7_plant.specs.State.{State}
use Rattle.s7_dialogue.specs.declared.questions.subject.Subject.{Subject}
use Rattle.s7_dialogue.specs.UserData.{group_of, subfunction_of}
use Rattle.s7_dialogue.specs.Question.{asks}
use Rattle.s7_dialogue.specs.Answer.{Answer, brings, refuses, answer_of}
use Rattle.s7_session.specs.LinkState.{LinkState, next_octet}
use Rattle.s7_session.specs.Judgement.{user_octets, user_reply, user_link, by_user, slice_room, slice_octets}
use Rattle.s7_session.specs.Judgement.{slices_left}
use Rattle.s7_session.specs.Passwords.{no_data}
use Rattle.s7_rig.specs.Exchanges.{AsksFor, GoesOn, user_heard, is_told}
use Rattle.s7_rig.specs.Plants.{IsStateFor}
use Rattle.s7_rig.proofs.ReplyLemmas.{IsAskedWell}
use Rattle.s7_rig.proofs.UserHeardLemmas.{IsRest, told_params, length-told, length-slice, error_is_heard}
use Rattle.s7_rig.proofs.UserHeardLemmas.{slice_is_heard, rest_is_held}

-- The reply answers user data about this: its error word has two octets, and without one its octets are whole.
pub record IsFit (subject : Subject) (reply : Said) : Type 0 where
  pub small : reply.error < 65536
  pub rest : reply.error ≡ 0 → IsRest subject [] reply.body

-- the message that is made of a reply with an error word or without, and what is heard of it
abbrev message_by : Bool → ℕ → ℕ → ℕ → Subject → Said → List ℕ
message_by good s octet pdu subject reply =
    cond good (slice_octets s (group_of subject) (subfunction_of subject) octet pdu reply.body)
    (user_octets s (told_params subject octet 0 reply.error) no_data)

abbrev heard_by : Bool → ℕ → ℕ → Said → Answer
heard_by good octet pdu reply =
    cond good (brings octet (ltb (slice_room pdu) (length reply.body)) (take (slice_room pdu) reply.body))
    (refuses reply.error)

is_heard_by : (good : Bool) (s octet pdu : ℕ) (subject : Subject) (octets : List ℕ) (reply : Said) → s < 65536
    → 64 ≤ pdu → pdu ≤ most_pdu → IsFit subject reply → eqb reply.error 0 ≡ good
    → answer_of (asks subject octets) s (message_by good s octet pdu subject reply)
    ≡ Some (heard_by good octet pdu reply)
is_heard_by true s octet pdu subject octets reply low least most fit is =
    slice_is_heard (asks subject octets) subject None s octet pdu [] reply.body (refl, λ params body. refl) refl low least
    most (fit.rest (eqb-true reply.error 0 is))
is_heard_by false s octet pdu subject octets reply low least most fit is =
    error_is_heard (asks subject octets) subject None s octet reply.error [] (refl, λ params body. refl) refl low fit.small
    is

long_by : (good : Bool) (s octet pdu : ℕ) (subject : Subject) (reply : Said) → 64 ≤ pdu → pdu ≤ most_pdu
    → (10 ≤ length (message_by good s octet pdu subject reply))
    × (length (message_by good s octet pdu subject reply) ≤ most_pdu)
long_by true s octet pdu subject reply least most = length-slice s octet pdu subject reply.body least most
long_by false s octet pdu subject reply least most =
    let long = length-told s octet 0 reply.error subject no_data in (omega (arith, long), omega (arith, long))

goes_on_by : (good : Bool) (link : LinkState) (octet pdu : ℕ) (subject : Subject) (octets : List ℕ) (reply : Said)
    → IsFit subject reply → eqb reply.error 0 ≡ good
    → link.sliced ≡ cond good (slices_left (group_of subject) (subfunction_of subject) octet pdu reply.body) None
    → GoesOn link (asks subject octets) (heard_by good octet pdu reply)
goes_on_by true link octet pdu subject octets reply fit is sliced =
    rest_is_held link subject octet pdu [] reply.body sliced (fit.rest (eqb-true reply.error 0 is))
goes_on_by false link octet pdu subject octets reply fit is sliced = tt

-- whatever state gives a reply that fits, it is heard, and what is left of it is held
pub user_well : (link : LinkState) (pdu s : ℕ) (subject : Subject) (octets : List ℕ)
    (timed : Bool) (request : ℕ → Request) → s < 65536 → 64 ≤ pdu → pdu ≤ most_pdu
    → ((moment : ℕ) → AsksFor subject octets moment (request moment))
    → ((moment : ℕ) (state : State) → IsStateFor (request moment) state
    → IsFit subject (plant.answer state link.right (request moment)))
    → IsAskedWell pdu (asks subject octets) s
    (by_user link pdu s (group_of subject) (subfunction_of subject) timed request)
user_well link pdu s subject octets timed request low least most told fits =
    let octet = next_octet link.user_sequence in
    record {
      message = user_reply link pdu s (group_of subject) (subfunction_of subject);
      messages = λ reply. refl;
      good = λ moment reply state gives for.
          let fit = subst (IsFit subject) (sym gives) (fits moment state for) in
          let long = long_by (eqb reply.error 0) s octet pdu subject reply least most in
          let left = user_link link pdu (group_of subject) (subfunction_of subject) reply in
          record {
            least = long.0;
            most = long.1;
            heard = record {
              answer = user_heard pdu octet reply;
              is = is_heard_by (eqb reply.error 0) s octet pdu subject octets reply low least most fit refl;
              told = is_told
                  (inl (moment, request moment, octet, told moment, (link.right, reply, refl, refl)));
              goes_on = goes_on_by (eqb reply.error 0) left octet pdu subject octets reply fit refl refl;
            };
          };
    }
