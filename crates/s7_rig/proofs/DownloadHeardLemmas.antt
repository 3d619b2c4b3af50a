-- What a client hears of a download.
use Rattle.std.proofs.Common.{◌≡◌, ℕ, ◌<◌, ◌≤◌, Bool, true, false, cond, eqb, List, [], ◌∷◌, ◌++◌, length, Ok, refl, ap}
use Rattle.std.proofs.Common.{sym, ◌∙◌, subst, arith}
use Rattle.std.specs.Prelude.{None, Some}
use Rattle.std.proofs.lemmas.Bool.{and_from}
use Rattle.std.proofs.lemmas.Slice.Eq.{bytes_eq-Decides}
use Rattle.s7_outer.specs.Held.{Held}
use Rattle.s7_header.specs.declared.header.Kind.TheVariants.{Job}
use Rattle.s7_header.specs.declared.header.Header.{Header}
use Rattle.s7_header.specs.Header.{header_of}
use Rattle.s7_header.specs.Negotiation.{most_pdu}
use Rattle.s7_header.proofs.OctetLemmas.{two_of_number}
use Rattle.s7_block.specs.declared.block.BlockName.{BlockName}
use Rattle.s7_block.specs.Names.{name_octets}
use Rattle.s7_block.specs.Telegrams.{announce_function, piece_function, name_front}
use Rattle.s7_plant.specs.declared.request.Request.TheVariants as plain
use Rattle.s7_plant.specs.Answers as plant
use Rattle.s7_plant.specs.Answers.{controlled, is_barred, refused, service_function, takes_block}
use Rattle.s7_plant.specs.Replies.{Said}
use Rattle.s7_plant.specs.State.{State}
use Rattle.s7_dialogue.specs.Downloads.{name_in, piece_at, is_call, function_behind}
use Rattle.s7_dialogue.specs.Question.{Question, announces, awaits_call, gives, inserts}
use Rattle.s7_dialogue.specs.Answer.{refuses, stands, announced, calls, answer_of, awaits_server, by_call, by_header}
use Rattle.s7_dialogue.specs.Answer.{by_kind, called}
use Rattle.s7_session.specs.Judgement.{answer_octets, refusal_octets, reply_octets}
use Rattle.s7_session.specs.Transfers.{server_job_octets}
use Rattle.s7_rig.specs.Exchanges.{control_heard}
use Rattle.s7_rig.proofs.AnsweredLemmas.{answer_is_heard, refusal_is_heard}

-- ---- the announcement

pub announcement_is_heard : (image : List ℕ) (s : ℕ) → s < 65536
    → answer_of (announces image) s (answer_octets s (announce_function ∷ []) []) ≡ Some announced
announcement_is_heard image s low =
    answer_is_heard (announces image) s (announce_function ∷ []) [] refl (omega (arith, low)) (omega arith)
    (omega arith)

-- ---- the server's jobs

abbrev call_header : ℕ → Header
call_header n = record { kind = Job; sequence = n; param_len = 18; body_len = 0; error = 0 }

-- a job of the server's is read whatever its sequence is
call_read : (n function : ℕ) (name : BlockName) → header_of (server_job_octets n function name) ≡ Ok (call_header n)
unfolding header_of
call_read n function name = ap (λ k. Ok (call_header k)) (two_of_number n)

call_is_heard : (q : Question) (s n function : ℕ) (name : BlockName) → awaits_server q ≡ true
    → answer_of q s (server_job_octets n function name)
    ≡ called q n (name_front function ++ name_octets name 0x50) []
unfolding answer_of
call_is_heard q s n function name awaits =
    let m = server_job_octets n function name in
    let h = call_header n in
    ap (by_header q s m) (call_read n function name)
    ∙ ap (λ b. cond b (by_call h.kind q h m) (cond (eqb h.sequence s) (by_kind h.kind q h m) None)) awaits

calls_for : (n function : ℕ) (name : BlockName)
    → cond (is_call function name (name_front function ++ name_octets name 0x50) []) (Some (calls n)) None
    ≡ Some (calls n)
calls_for n function name =
    let params = name_front function ++ name_octets name 0x50 in
    ap (λ b. cond b (Some (calls n)) None) (and_from _ _ ((bytes_eq-Decides params params).1 refl) refl)

-- the job that asks for the first piece, and the one behind a piece
pub first_call_is_heard : (image : List ℕ) (s n : ℕ)
    → answer_of (awaits_call image) s (server_job_octets n piece_function (name_in image)) ≡ Some (calls n)
first_call_is_heard image s n =
    call_is_heard (awaits_call image) s n piece_function (name_in image) refl
    ∙ calls_for n piece_function (name_in image)

pub next_call_is_heard : (image : List ℕ) (s n room from call : ℕ)
    → answer_of (gives image room from call) s
    (server_job_octets n (function_behind (piece_at image room from)) (name_in image))
    ≡ Some (calls n)
next_call_is_heard image s n room from call =
    let function = function_behind (piece_at image room from) in
    call_is_heard (gives image room from call) s n function (name_in image) refl ∙ calls_for n function (name_in image)

-- ---- the insertion

-- A reply to an insertion: that it is done, or an error word.
data IsOfInsertion (reply : Said) : Type 0 where
  is_done : reply ≡ controlled service_function 0x00 → IsOfInsertion reply
  is_error : (error : ℕ) → eqb error 0 ≡ false → error < 65536 → reply ≡ refused error → IsOfInsertion reply

inserted_by : (barred takes : Bool)
    → IsOfInsertion (cond barred (refused 0xD241) (cond takes (controlled service_function 0x00) (refused 0x8F04)))
inserted_by true takes = is_error 0xD241 refl (omega arith) refl
inserted_by false true = is_done refl
inserted_by false false = is_error 0x8F04 refl (omega arith) refl

reply_of_insertion : (state : State) (right : Bool) (kind number : ℕ) (image : List ℕ) (spare : Held)
    → IsOfInsertion (plant.answer state right (plain.Insert kind number image spare))
reply_of_insertion state right kind number image spare =
    inserted_by (is_barred state right) (takes_block state kind number)

-- The octets of the reply are short, and heard as it says.
pub record IsInsertionHeard (image : List ℕ) (call s : ℕ) (reply : Said) : Type 0 where
  pub least : 10 ≤ length (reply_octets s reply)
  pub most : length (reply_octets s reply) ≤ most_pdu
  pub is : answer_of (inserts image call) s (reply_octets s reply) ≡ Some (control_heard reply)

done_heard : (image : List ℕ) (call s : ℕ) → s < 65536
    → IsInsertionHeard image call s (controlled service_function 0x00)
done_heard image call s low = record {
  least = omega arith;
  most = omega arith;
  is = answer_is_heard (inserts image call) s (service_function ∷ 0x00 ∷ []) [] refl (omega (arith, low)) (omega arith)
      (omega arith);
}

error_heard : (image : List ℕ) (call s error : ℕ) → s < 65536 → eqb error 0 ≡ false → error < 65536
    → IsInsertionHeard image call s (refused error)
error_heard image call s error low bad small =
    let message : reply_octets s (refused error) ≡ refusal_octets s error =
    ap (λ b. cond b (answer_octets s [] []) (refusal_octets s error)) bad in
    let heard : control_heard (refused error) ≡ refuses error =
    ap (λ b. cond b (stands 0) (refuses error)) bad in
    record {
      least = subst (λ (octets : List ℕ). 10 ≤ length octets) (sym message) (omega arith);
      most = subst (λ (octets : List ℕ). length octets ≤ most_pdu) (sym message) (omega arith);
      is = ap (answer_of (inserts image call) s) message
          ∙ (refusal_is_heard (inserts image call) s error refl (omega (arith, low)) (omega (arith, small))
          ∙ ap Some (sym heard));
    }

heard_by_kind : (image : List ℕ) (call s : ℕ) (reply : Said) → s < 65536 → IsOfInsertion reply
    → IsInsertionHeard image call s reply
heard_by_kind image call s reply low (is_done is) =
    subst (IsInsertionHeard image call s) (sym is) (done_heard image call s low)
heard_by_kind image call s reply low (is_error error bad small is) =
    subst (IsInsertionHeard image call s) (sym is) (error_heard image call s error low bad small)

-- whatever state gives the reply to an insertion, it is heard
pub insertion_is_heard : (state : State) (right : Bool) (image : List ℕ) (call s kind number : ℕ) (given : List ℕ)
    (spare : Held) (reply : Said) → s < 65536
    → reply ≡ plant.answer state right (plain.Insert kind number given spare)
    → IsInsertionHeard image call s reply
insertion_is_heard state right image call s kind number given spare reply low is =
    heard_by_kind image call s reply low
    (subst IsOfInsertion (sym is) (reply_of_insertion state right kind number given spare))
