-- What a client hears of the answers that a session gives.
use Rattle.std.proofs.Common.{◌≡◌, ℕ, ◌+◌, ◌<◌, ◌≤◌, ◌^◌, Bool, true, false, cond, eqb, List, [], ◌∷◌, ◌++◌, length, map, drop, Option, None, Some, option_map, Ok, refl, ap, ◌∙◌, arith, length-append}
use Rattle.std.proofs.Math.Seq.{take-append_seam, drop-append_seam}
use Rattle.std.proofs.lemmas.Bool.{and_from, eq-eqb}
use Rattle.s7_header.specs.Header.{header_of, refusal_of}
use Rattle.s7_header.specs.declared.header.Header.{Header}
use Rattle.s7_header.specs.declared.header.Kind.TheVariants.{AckData}
use Rattle.s7_header.specs.declared.negotiation.Negotiation.{Negotiation}
use Rattle.s7_header.specs.Negotiation.{negotiation_spelling}
use Rattle.s7_header.proofs.HeaderLemmas.{spelled}
use Rattle.s7_header.proofs.NegotiationLemmas.{spelled_negotiation}
use Rattle.s7_item.specs.declared.item.Item.{Item}
use Rattle.s7_item.specs.declared.places.DataPlace.{DataPlace}
use Rattle.s7_item.specs.DataItem.{data_octets, octets_at}
use Rattle.s7_item.specs.Sizes.{answer_size}
use Rattle.s7_area.specs.Memory.{Memory, written}
use Rattle.s7_plant.specs.declared.request.Request.TheVariants.{Read, Write}
use Rattle.s7_plant.specs.Answers.{read_item, write_codes}
use Rattle.s7_plant.specs.Answers as plant
use Rattle.s7_plant.specs.Requests.{asked}
use Rattle.s7_plant.specs.State.{State}
use Rattle.s7_dialogue.specs.Question.{Question, negotiates, reads, writes, awaits_call, gives, is_numbered}
use Rattle.s7_dialogue.specs.Answer.{Answer, refuses, grants, tells, notes, item_answers, counts_items, grant_in, acknowledged, by_header, by_kind, awaits_server, by_call, answer_of}
use Rattle.s7_session.specs.Judgement.{answer_octets, refusal_octets, reply_octets}
use Rattle.s7_rig.specs.Heard.{told_of}
use Rattle.s7_rig.proofs.DataItemLemmas.{items_are_told, read_fits}

-- ---- the header

of_sequence : (s : ℕ) (told : Option Answer) → cond (eqb s s) told None ≡ told
of_sequence s told = ap (λ b. cond b told None) (eq-eqb s s refl)

-- what goes out under a sequence of the client's own awaits no job of the server's
own_awaits : (q : Question) → is_numbered q ≡ true → awaits_server q ≡ false
own_awaits (awaits_call image) numbered = absurd (cc)
own_awaits (gives image room from call) numbered = absurd (cc)
own_awaits _ numbered = refl

pub heard_by : (q : Question) (s : ℕ) (message : List ℕ) (h : Header) → is_numbered q ≡ true → header_of message ≡ Ok h
    → h.sequence ≡ s → answer_of q s message ≡ by_kind h.kind q h message
unfolding answer_of
heard_by q s message h numbered is same =
    let own : Bool → Option Answer = λ b. cond b (by_kind h.kind q h message) None in
    ap (by_header q s message) is
    ∙ (ap (λ b. cond b (by_call h.kind q h message) (own (eqb h.sequence s))) (own_awaits q numbered)
    ∙ ap own (eq-eqb h.sequence s same))

-- a refusal is heard with its error word
pub refusal_is_heard : (q : Question) (s error : ℕ) → is_numbered q ≡ true → s < 2 ^ 16 → error < 2 ^ 16
    → answer_of q s (refusal_octets s error) ≡ Some (refuses error)
refusal_is_heard q s error numbered fits small =
    let h : Header = refusal_of s error in
    heard_by q s (refusal_octets s error) h numbered
    (spelled 0 0 h [] [] (record { sequence = fits; param_len = omega arith; body_len = omega arith; error = small; no_error = tt }) refl refl) refl

abbrev pub header_with : ℕ → List ℕ → List ℕ → Header
header_with s params body = record { kind = AckData; sequence = s; param_len = length params; body_len = length body; error = 0 }

-- an answer with parameters and data is heard as these
pub answer_is_heard : (q : Question) (s : ℕ) (params body : List ℕ) → is_numbered q ≡ true → s < 2 ^ 16
    → length params < 2 ^ 16 → length body < 2 ^ 16
    → answer_of q s (answer_octets s params body) ≡ acknowledged q params body
answer_is_heard q s params body numbered fits few short =
    let h : Header = header_with s params body in
    heard_by q s (answer_octets s params body) h numbered
    (spelled 0 0 h params body (record { sequence = fits; param_len = few; body_len = short; error = omega arith; no_error = tt }) refl refl) refl
    ∙ (ap (λ xs. acknowledged q xs (drop (length params) (params ++ body))) (take-append_seam params body)
    ∙ ap (acknowledged q params) (drop-append_seam params body))

-- a grant is heard
pub negotiation_is_heard : (wanted n : Negotiation) (s : ℕ) → s < 2 ^ 16 → answer_of (negotiates wanted) s (answer_octets s (negotiation_spelling n) []) ≡ Some (grants n)
negotiation_is_heard wanted n s fits =
    answer_is_heard (negotiates wanted) s (negotiation_spelling n) [] refl fits (omega arith) (omega arith)
    ∙ ap grant_in (spelled_negotiation 0 n)

-- ---- lengths

pub length-refusal : (s error : ℕ) → length (refusal_octets s error) ≡ 12
length-refusal s error = refl

pub length-answer : (s : ℕ) (params body : List ℕ) → length (answer_octets s params body) ≡ 12 + length params + length body
length-answer s params body = omega (arith, length-append params body)

pub length-grant : (s : ℕ) (n : Negotiation) → length (answer_octets s (negotiation_spelling n) []) ≡ 20
length-grant s n = refl

-- ---- the replies of a plant

abbrev items_params : ℕ → ℕ → List ℕ
items_params function count = function ∷ count ∷ []

counted : (function : ℕ) (items : List Item) → counts_items function items (items_params function (length items)) ≡ true
counted function items = and_from _ _ refl (and_from _ _ (eq-eqb function function refl) (eq-eqb (length items) (length items) refl))

-- the reply to a read is heard as codes and octets of its items
pub read_is_heard : (state : State) (right : Bool) (items : List Item) (s : ℕ) → s < 2 ^ 16 → answer_size items ≤ 65535
    → answer_of (reads items) s (reply_octets s (plant.answer_of state (asked right (Read items)))) ≡ Some (tells (map (told_of state.memory right) items))
read_is_heard state right items s fits most =
    let m = state.memory in
    let params : List ℕ = items_params 0x04 (length items) in
    let body : List ℕ = data_octets (map (read_item m right) items) in
    answer_is_heard (reads items) s params body refl fits (omega arith) (omega (arith, read_fits m right items, most))
    ∙ (ap (λ b. cond b (option_map tells (item_answers items body)) None) (counted 0x04 items)
    ∙ ap (option_map tells) (items_are_told m right items))

-- it is no longer than was foreseen
pub length-read : (state : State) (right : Bool) (items : List Item) (s : ℕ) → length (reply_octets s (plant.answer_of state (asked right (Read items)))) ≤ answer_size items
length-read state right items s =
    let m = state.memory in
    omega (arith, length-answer s (items_params 0x04 (length items)) (data_octets (map (read_item m right) items)), read_fits m right items)

pub least-read : (state : State) (right : Bool) (items : List Item) (s : ℕ) → 14 ≤ length (reply_octets s (plant.answer_of state (asked right (Read items))))
least-read state right items s = omega (arith, length-answer s (items_params 0x04 (length items)) (data_octets (map (read_item state.memory right) items)))

-- each item has a code
pub length-write_codes : (m : Memory) (right : Bool) (items : List Item) (places : List DataPlace) (octets : List ℕ) → length places ≡ length items
    → length (write_codes m right items places octets) ≡ length items
length-write_codes m right [] places octets many = refl
length-write_codes m right (item ∷ items) [] octets many = absurd (omega (arith, many))
length-write_codes m right (item ∷ items) (place ∷ places) octets many =
    omega (arith, length-write_codes (written m right item (octets_at octets place)) right items places octets (omega (arith, many)))

pub length-write : (state : State) (right : Bool) (items : List Item) (places : List DataPlace) (octets : List ℕ) (s : ℕ)
    → length (reply_octets s (plant.answer_of state (asked right (Write items places octets)))) ≡ 14 + length (write_codes state.memory right items places octets)
length-write state right items places octets s =
    omega (arith, length-answer s (items_params 0x05 (length items)) (write_codes state.memory right items places octets))

-- the reply to a write is heard as the codes of its items
pub write_is_heard : (state : State) (right : Bool) (items : List Item) (places : List DataPlace) (octets found : List ℕ) (s : ℕ) → s < 2 ^ 16 → length places ≡ length items → length items < 2 ^ 16
    → answer_of (writes items found) s (reply_octets s (plant.answer_of state (asked right (Write items places octets)))) ≡ Some (notes (write_codes state.memory right items places octets))
write_is_heard state right items places octets found s fits many few =
    let params : List ℕ = items_params 0x05 (length items) in
    let codes : List ℕ = write_codes state.memory right items places octets in
    let all : length codes ≡ length items = length-write_codes state.memory right items places octets many in
    answer_is_heard (writes items found) s params codes refl fits (omega arith) (omega (arith, all, few))
    ∙ ap (λ b. cond b (Some (notes codes)) None) (and_from _ _ (counted 0x05 items) (eq-eqb (length codes) (length items) all))
