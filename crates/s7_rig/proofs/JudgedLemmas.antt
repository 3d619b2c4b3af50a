-- How a session judges the questions of a client.
use Rattle.std.proofs.Common.{◌≡◌, ℕ, ◌+◌, ◌<◌, ◌≤◌, Bool, true, false, ◌&&◌, cond, min, Ok, Err, List, [], ◌∷◌, ◌++◌, length, take, drop, refl, ap, sym, ◌∙◌, subst, arith, length-append}
use Rattle.std.specs.Bool.{OnFalse}
use Rattle.std.specs.Prelude.{Some}
use Rattle.std.proofs.lemmas.Bool.{le-ltb, le-leb}
use Rattle.std.proofs.Math.Seq.{take-append_seam, drop-append_seam}
use Rattle.s7_header.specs.declared.header.Kind.{Kind}
use Rattle.s7_header.specs.declared.header.Kind.TheVariants.{Job, Ack, AckData, User}
use Rattle.s7_header.specs.declared.header.Header.{Header}
use Rattle.s7_header.specs.declared.negotiation.Negotiation.{Negotiation}
use Rattle.s7_header.specs.Header.{has_error, header_len, header_of}
use Rattle.s7_header.specs.Negotiation.{negotiation_spelling, granted, jobs_granted, most_pdu}
use Rattle.s7_header.proofs.HeaderLemmas.{spelled}
use Rattle.s7_header.proofs.NegotiationLemmas.{spelled_negotiation}
use Rattle.s7_header.proofs.OctetLemmas.{two_of_number}
use Rattle.s7_item.specs.declared.item.Item.{Item}
use Rattle.s7_item.specs.Sizes.{answer_size}
use Rattle.s7_item.proofs.ItemLaws.{reads_back}
use Rattle.s7_plant.specs.declared.request.Request.TheVariants.{Read}
use Rattle.s7_dialogue.specs.Question.{Question, negotiates, reads, gives, kind_of, params_of, body_of, is_numbered, sequence_in, message_octets, question_octets}
use Rattle.s7_session.specs.LinkState.{LinkState}
use Rattle.s7_session.specs.Judgement.{Judgement, own, judge, is_request, kinds, asks_plainly, answer_octets, sequence_of, headed, function_at, pdu_limit, read, negotiation, negotiated}
use Rattle.s7_session.specs.Events.{is_s7}

-- ---- messages that ask

-- a message that asks has ten octets of header
length-message : (kind : Kind) (sequence : ℕ) (params body : List ℕ) → has_error kind ≡ false
    → length (message_octets kind sequence params body) ≡ 10 + length params + length body
length-message Job sequence params body bare = omega (arith, length-append params body)
length-message User sequence params body bare = omega (arith, length-append params body)
length-message Ack sequence params body bare = absurd (cc)
length-message AckData sequence params body bare = absurd (cc)

message_sequence : (kind : Kind) (sequence : ℕ) (params body : List ℕ)
    → sequence_of (message_octets kind sequence params body) ≡ sequence
message_sequence kind sequence params body = two_of_number sequence

-- a message of any kind has them
least-message : (kind : Kind) (sequence : ℕ) (params body : List ℕ)
    → 10 ≤ length (message_octets kind sequence params body)
least-message kind sequence params body = omega arith

pub message_is_s7 : (kind : Kind) (sequence : ℕ) (params body : List ℕ)
    → is_s7 (message_octets kind sequence params body) ≡ true
message_is_s7 kind sequence params body =
    ap (λ t. t && true)
    (le-leb 10 (length (message_octets kind sequence params body)) (least-message kind sequence params body))

abbrev message_header : Kind → ℕ → List ℕ → List ℕ → Header
message_header kind sequence params body =
    record { kind = kind; sequence = sequence; param_len = length params; body_len = length body; error = 0 }

no_error : (t : Bool) → OnFalse t (◌≡◌ {A = ℕ} 0 0)
no_error true = tt
no_error false = refl

message_read : (kind : Kind) (sequence : ℕ) (params body : List ℕ) → has_error kind ≡ false → sequence < 65536
    → length (message_octets kind sequence params body) ≤ most_pdu
    → header_of (message_octets kind sequence params body) ≡ Ok (message_header kind sequence params body)
message_read kind sequence params body bare low most =
    let size = length-message kind sequence params body bare in
    spelled 0 0 (message_header kind sequence params body) params body
    (record {
      sequence = omega (arith, low);
      param_len = omega (arith, size, most);
      body_len = omega (arith, size, most);
      error = omega arith;
      no_error = no_error (has_error kind);
    })
    refl refl

is_asked : (kind : Kind) (sequence : ℕ) (params body : List ℕ) → has_error kind ≡ false
    → is_request (message_octets kind sequence params body) ≡ true
is_asked Job sequence params body bare = refl
is_asked User sequence params body bare = refl
is_asked Ack sequence params body bare = absurd (cc)
is_asked AckData sequence params body bare = absurd (cc)

behind_header : (kind : Kind) (sequence : ℕ) (params body : List ℕ) → has_error kind ≡ false
    → drop (header_len kind) (message_octets kind sequence params body) ≡ params ++ body
behind_header Job sequence params body bare = refl
behind_header User sequence params body bare = refl
behind_header Ack sequence params body bare = absurd (cc)
behind_header AckData sequence params body bare = absurd (cc)

pub not_refused : (t : Bool) (x y : Judgement) → t ≡ false → cond t x y ≡ y
not_refused t x y is = ap (λ v. cond v x y) is

pub chosen : (t : Bool) (x y : Judgement) → t ≡ true → cond t x y ≡ x
chosen t x y is = ap (λ v. cond v x y) is

-- a message that asks is judged by its kind, parameters and data
judged_message : (link : LinkState) (kind : Kind) (sequence : ℕ) (params body : List ℕ) → has_error kind ≡ false
    → sequence < 65536 → length (message_octets kind sequence params body) ≤ most_pdu
    → length (message_octets kind sequence params body) ≤ pdu_limit link.granted
    → judge link (message_octets kind sequence params body) ≡ kinds link kind sequence params body
unfolding judge
judged_message link kind sequence params body bare low most fits =
    let m = message_octets kind sequence params body in
    let parts : ℕ → List ℕ → List ℕ → Judgement = λ n xs ys. kinds link kind n xs ys in
    let by_rest : ℕ → List ℕ → Judgement = λ n xs. parts n (take (length params) xs) (drop (length params) xs) in
    chosen _ _ _ (is_asked kind sequence params body bare)
    ∙ (ap (headed link m) (message_read kind sequence params body bare low most)
    ∙ (not_refused _ _ _ (le-ltb (pdu_limit link.granted) (length m) fits)
    ∙ (ap (λ n. by_rest n (drop (header_len kind) m)) (message_sequence kind sequence params body)
    ∙ (ap (by_rest sequence) (behind_header kind sequence params body bare)
    ∙ (ap (λ xs. parts sequence xs (drop (length params) (params ++ body))) (take-append_seam params body)
    ∙ ap (parts sequence params) (drop-append_seam params body))))))

-- ---- questions

-- one under a sequence of the client's own is a request
question_asks : (question : Question) → is_numbered question ≡ true → has_error (kind_of question) ≡ false
question_asks (gives image room from call) numbered = absurd (cc)
question_asks _ numbered = refl

own_sequence : (sequence : ℕ) (question : Question) → is_numbered question ≡ true
    → sequence_in sequence question ≡ sequence
own_sequence sequence (gives image room from call) numbered = absurd (cc)
own_sequence sequence _ numbered = refl

pub question_sequence : (sequence : ℕ) (question : Question) → is_numbered question ≡ true
    → sequence_of (question_octets sequence question) ≡ sequence
question_sequence sequence question numbered =
    message_sequence (kind_of question) (sequence_in sequence question) (params_of question) (body_of question)
    ∙ own_sequence sequence question numbered

pub question_is_s7 : (sequence : ℕ) (question : Question) → is_s7 (question_octets sequence question) ≡ true
question_is_s7 sequence question =
    message_is_s7 (kind_of question) (sequence_in sequence question) (params_of question) (body_of question)

-- it is judged by its kind, parameters and data, where it has room in the PDU
pub judged_question : (link : LinkState) (sequence : ℕ) (question : Question) → is_numbered question ≡ true
    → sequence < 65536 → length (question_octets sequence question) ≤ most_pdu
    → length (question_octets sequence question) ≤ pdu_limit link.granted
    → judge link (question_octets sequence question)
    ≡ kinds link (kind_of question) sequence (params_of question) (body_of question)
judged_question link sequence question numbered low most fits =
    let same = own_sequence sequence question numbered in
    let params = params_of question in
    let body = body_of question in
    judged_message link (kind_of question) (sequence_in sequence question) params body (question_asks question numbered)
    (omega (arith, same, low)) most fits
    ∙ ap (λ n. kinds link (kind_of question) n params body) same

-- what fits the PDU fits the link on which it was granted
pub within : (link : LinkState) (pdu n : ℕ) → link.granted ≡ Some pdu → n ≤ pdu → n ≤ pdu_limit link.granted
within link pdu n granted fits = subst (λ g. n ≤ pdu_limit g) (sym granted) fits

-- the octets of items are asked of the plant
pub judged_read : (link : LinkState) (pdu sequence : ℕ) (items : List Item) → link.granted ≡ Some pdu → sequence < 65536 → pdu ≤ most_pdu → length (question_octets sequence (reads items)) ≤ pdu
    → 0 < length items → length items ≤ 20 → answer_size items ≤ pdu
    → judge link (question_octets sequence (reads items)) ≡ asks_plainly link sequence (Read items)
judged_read link pdu sequence items granted low most fits some few room =
    judged_question link sequence (reads items) refl low (omega (arith, most, fits)) (within link pdu _ granted fits)
    ∙ (ap (λ g. function_at link g 0x04 sequence (params_of (reads items)) []) granted
    ∙ (ap (read link pdu sequence []) (reads_back 0x04 items some few)
    ∙ not_refused _ _ _ (le-ltb pdu (answer_size items) room)))

-- a negotiation is answered with what is granted
pub judged_negotiation : (link : LinkState) (sequence : ℕ) (asked n : Negotiation) → sequence < 65536 → 18 ≤ pdu_limit link.granted → granted asked ≡ Ok n
    → judge link (question_octets sequence (negotiates asked)) ≡ own (answer_octets sequence (negotiation_spelling n) [] ∷ []) (record link { granted = Some n.pdu })
judged_negotiation link sequence asked n low room is =
    judged_question link sequence (negotiates asked) refl low (omega arith) (omega (arith, room))
    ∙ (ap (negotiation link sequence) (spelled_negotiation 0 asked) ∙ ap (negotiated link sequence) is)

-- from 64 octets on a PDU is granted, up to the greatest
pub is_granted : (asked : Negotiation) → 64 ≤ asked.pdu → granted asked ≡ Ok (record { calling = jobs_granted asked.calling; called = jobs_granted asked.called; pdu = min asked.pdu most_pdu })
is_granted asked least =
    let n : Negotiation = record { calling = jobs_granted asked.calling; called = jobs_granted asked.called; pdu = min asked.pdu most_pdu } in
    ap (λ t. cond t (Err (record {})) (Ok n)) (le-ltb asked.pdu 64 least)
