-- Laws of what answers bring: each fits its question, and the octets of user data are whole with the last answer.
use Rattle.std.proofs.Common.{◌≡◌, ◌⊎◌, inl, inr, ℕ, ◌+◌, Bool, true, false, not, cond, eqb, Option, Some, None, Ok, Err, List, [], ◌∷◌, ◌++◌, length, refl, sym, ap, ◌∙◌, subst}
use Rattle.std.specs.Prelude.{◌&&◌, Result, option_map}
use Rattle.std.specs.List.{AllByRecursion}
use Rattle.std.proofs.lemmas.Bool.{and_parts, eqb-true}
use Rattle.std.proofs.lemmas.List.{append-nil, map-append}
use Rattle.std.proofs.lemmas.List.Concat.{flat_map-append}
use Rattle.s7_header.specs.declared.header.Header.{Header}
use Rattle.s7_header.specs.declared.header.Kind.{Kind}
use Rattle.s7_header.specs.declared.header.Kind.TheVariants as kind
use Rattle.s7_header.specs.declared.faults.HeaderFault.{HeaderFault}
use Rattle.s7_header.specs.declared.faults.BadParams.{BadParams}
use Rattle.s7_header.specs.declared.user_params.UserParams.{UserParams}
use Rattle.s7_header.specs.Header.{header_of, params_of, body_of}
use Rattle.s7_header.specs.UserParams.{user_params_of}
use Rattle.s7_item.specs.declared.item.Item.{Item}
use Rattle.s7_szl.specs.Joining.{is_refused}
use Rattle.s7_dialogue.specs.declared.questions.subject.Subject.{Subject}
use Rattle.s7_dialogue.specs.UserData.{octets_in as data_in, answers_about, comes_in_pieces, is_whole, goes_on_with}
use Rattle.s7_dialogue.specs.Question.{Question, negotiates, reads, writes, asks, asks_further, awaits_call, gives}
use Rattle.s7_dialogue.specs.Answer.{Answer, ItemAnswer, tells, notes, brings, refuses, item_answers, counts_items, acknowledged, brought, if_data, is_under, by_params, answered_by_user, by_kind, awaits_server, by_call, by_header, answer_of}
use Rattle.s7_dialogue.specs.Refusals.{telegram_refusal}
use Rattle.s7_dialogue.specs.Flight.{Row, answers_of}
use Rattle.s7_dialogue.specs.Dialogue.{refusal_in, first_refusal, of_answer, octets_in, octets_brought, behind, last_answer, next_piece, asking_about}
use Rattle.s7_dialogue.proofs.FlightLemmas.{same_some, IsAnswered}
use Rattle.s7_dialogue.proofs.RowLemmas.{all_parts}
use Rattle.s7_dialogue.proofs.EndLemmas.{first_none}
use Rattle.s7_dialogue.proofs.BringLastLemmas.{HasLast, last_if, AsksLast}

-- ---- answers that fit

-- octets of user data go on with those that came, and a refusal has none
abbrev pub GoesBehind : Subject → List ℕ → Answer → Type 0
GoesBehind subject so_far (brings octet more octets) = goes_on_with subject so_far more octets ≡ true
GoesBehind subject so_far (refuses error) = Unit {0}
GoesBehind subject so_far _ = ⊥

-- the answer fits the question
abbrev pub Fits : Question → Answer → Type 0
Fits (reads items) (tells answers) = (body : List ℕ) × (item_answers items body ≡ Some answers)
Fits (reads items) (refuses error) = Unit {0}
Fits (reads items) _ = ⊥
Fits (writes items octets) (notes codes) = length codes ≡ length items
Fits (writes items octets) (refuses error) = Unit {0}
Fits (writes items octets) _ = ⊥
Fits (asks subject octets) answer = GoesBehind subject [] answer
Fits (asks_further subject octet so_far) answer = GoesBehind subject so_far answer
Fits _ answer = Unit {0}

if_some : (b : Bool) (o : Option Answer) (answer : Answer) → cond b o None ≡ Some answer
    → (b ≡ true) × (o ≡ Some answer)
if_some true o answer is = (refl, is)
if_some false o answer is = absurd (cc)

refuses_fits : (question : Question) (error : ℕ) → Fits question (refuses error)
refuses_fits (reads items) error = tt
refuses_fits _ error = tt

-- ---- acknowledgements

told_fits : (items : List Item) (body : List ℕ) (told : Option (List ItemAnswer)) (answer : Answer)
    → item_answers items body ≡ told
    → option_map tells told ≡ Some answer → Fits (reads items) answer
told_fits items body None answer same is = absurd (cc)
told_fits items body (Some answers) answer same is =
    subst (Fits (reads items)) (same_some (tells answers) answer is) (body, same)

acknowledged_fits : (question : Question) (params body : List ℕ) (answer : Answer)
    → acknowledged question params body ≡ Some answer → Fits question answer
acknowledged_fits (negotiates asked) params body answer is = tt
acknowledged_fits (reads items) params body answer is =
    let told = if_some (counts_items 0x04 items params) (option_map tells (item_answers items body)) answer is in
    told_fits items body (item_answers items body) answer refl told.1
acknowledged_fits (writes items octets) params body answer is =
    let counts : Bool = counts_items 0x05 items params in
    let told = if_some (counts && eqb (length body) (length items)) (Some (notes body)) answer is in
    let both = and_parts counts (eqb (length body) (length items)) told.0 in
    let long : length body ≡ length items = eqb-true (length body) (length items) both.1 in
    subst (Fits (writes items octets)) (same_some (notes body) answer told.1) long
acknowledged_fits (asks subject octets) params body answer is = absurd (cc)
acknowledged_fits (asks_further subject octet so_far) params body answer is = absurd (cc)
acknowledged_fits _ params body answer is = tt

-- ---- user data

goes_by : (good goes none : Bool) (P : Answer → Type 0) (one other answer : Answer) → (goes ≡ true → P one) → P other
    → cond good (cond goes (Some one) None) (cond none (Some other) None) ≡ Some answer → P answer
goes_by true true none P one other answer p q is = subst P (same_some one answer is) (p refl)
goes_by true false none P one other answer p q is = absurd (cc)
goes_by false goes true P one other answer p q is = subst P (same_some other answer is) q
goes_by false goes false P one other answer p q is = absurd (cc)

brought_fits : (subject : Subject) (so_far : List ℕ) (params : UserParams) (octets : List ℕ) (answer : Answer)
    → brought subject so_far params octets ≡ Some answer → GoesBehind subject so_far answer
brought_fits subject so_far params octets answer is =
    let follow : Bool = eqb params.more 1 in
    let goes : Bool = goes_on_with subject so_far follow octets in
    goes_by (eqb params.error 0) goes (eqb (length octets) 0) (GoesBehind subject so_far)
    (brings params.sequence follow octets) (refuses params.error) answer (λ is_good. is_good) tt is

data_fits : (subject : Subject) (so_far : List ℕ) (params : UserParams) (octets : Option (List ℕ)) (answer : Answer)
    → if_data subject so_far params octets ≡ Some answer → GoesBehind subject so_far answer
data_fits subject so_far params None answer is = absurd (cc)
data_fits subject so_far params (Some octets) answer is = brought_fits subject so_far params octets answer is

pub params_fit : (subject : Subject) (under : Option ℕ) (so_far body : List ℕ) (r : Result UserParams BadParams)
    (answer : Answer) → by_params subject under so_far body r ≡ Some answer → GoesBehind subject so_far answer
params_fit subject under so_far body (Err bad) answer is = absurd (cc)
params_fit subject under so_far body (Ok params) answer is =
    data_fits subject so_far params (data_in body) answer
    (if_some (answers_about subject params && is_under under params.sequence)
    (if_data subject so_far params (data_in body)) answer is).1

user_fits : (question : Question) (params body : List ℕ) (answer : Answer)
    → answered_by_user question params body ≡ Some answer → Fits question answer
user_fits (asks subject octets) params body answer is =
    params_fit subject None [] body (user_params_of params) answer is
user_fits (asks_further subject octet so_far) params body answer is =
    params_fit subject (Some octet) so_far body (user_params_of params) answer is
user_fits _ params body answer is = absurd (cc)

-- ---- messages

kind_fits : (k : Kind) (question : Question) (h : Header) (message : List ℕ) (answer : Answer)
    → by_kind k question h message ≡ Some answer → Fits question answer
kind_fits kind.Job question h message answer is = absurd (cc)
kind_fits kind.Ack question h message answer is =
    let told = if_some (eqb h.param_len 0 && eqb h.body_len 0) (Some (refuses h.error)) answer is in
    subst (Fits question) (same_some (refuses h.error) answer told.1) (refuses_fits question h.error)
kind_fits kind.AckData question h message answer is =
    acknowledged_fits question (params_of message h) (body_of message h) answer
    (if_some (eqb h.error 0) (acknowledged question (params_of message h) (body_of message h)) answer is).1
kind_fits kind.User question h message answer is =
    user_fits question (params_of message h) (body_of message h) answer is

-- whatever is answered where a job of the server's is awaited
server_fits : (question : Question) (answer : Answer) → awaits_server question ≡ true → Fits question answer
server_fits (awaits_call image) answer awaits = tt
server_fits (gives image room from call) answer awaits = tt
server_fits _ answer awaits = absurd (cc)

awaited_fits : (question : Question) (sequence : ℕ) (message : List ℕ) (h : Header) (answer : Answer) (awaits : Bool)
    → awaits_server question ≡ awaits
    → cond awaits (by_call h.kind question h message)
    (cond (eqb h.sequence sequence) (by_kind h.kind question h message) None) ≡ Some answer
    → Fits question answer
awaited_fits question sequence message h answer true awaits is = server_fits question answer awaits
awaited_fits question sequence message h answer false awaits is =
    kind_fits h.kind question h message answer
    (if_some (eqb h.sequence sequence) (by_kind h.kind question h message) answer is).1

header_fits : (question : Question) (sequence : ℕ) (message : List ℕ) (r : Result Header HeaderFault) (answer : Answer)
    → by_header question sequence message r ≡ Some answer → Fits question answer
header_fits question sequence message (Err fault) answer is = absurd (cc)
header_fits question sequence message (Ok h) answer is =
    awaited_fits question sequence message h answer (awaits_server question) refl is

-- what a message answers to a question fits it
pub answer_fits : (question : Question) (sequence : ℕ) (message : List ℕ) (answer : Answer)
    → answer_of question sequence message ≡ Some answer → Fits question answer
unfolding answer_of
answer_fits question sequence message answer is = header_fits question sequence message (header_of message) answer is

-- ---- what is asked behind answers

behind_by : (b : Bool) (next question : Question) → cond b (Some next) None ≡ Some question → next ≡ question
behind_by true next question is = same_some next question is
behind_by false next question is = absurd (cc)

-- only the next octets are asked there
pub asks_behind : (subject : Subject) (so_far : List ℕ) (last : Option Answer) (question : Question)
    → behind subject so_far last ≡ Some question → (octet : ℕ) × (asks_further subject octet so_far ≡ question)
asks_behind subject so_far (Some (brings octet follow octets)) question is =
    (octet, behind_by (follow && comes_in_pieces subject) (asks_further subject octet so_far) question is)
asks_behind subject so_far (Some _) question is = absurd (cc)
asks_behind subject so_far None question is = absurd (cc)

-- an answer that fits the next question goes on with what the answers before it brought
piece_fits : (subject : Subject) (octets : List ℕ) (answers : List (Option Answer)) (question : Question)
    (answer : Answer)
    → next_piece subject octets answers ≡ Some question → Fits question answer
    → GoesBehind subject (octets_brought answers) answer
piece_fits subject octets [] question answer is fits =
    subst (λ (q : Question). Fits q answer) (sym (same_some (asks subject octets) question is)) fits
piece_fits subject octets (first ∷ answers) question answer is fits =
    let next = asks_behind subject (octets_brought (first ∷ answers)) (last_answer first answers) question is in
    subst (λ (q : Question). Fits q answer) (sym next.1) fits

pub last_is : (first : Option Answer) (answers : List (Option Answer)) (last : Option Answer)
    → last_answer first (answers ++ last ∷ []) ≡ last
last_is first [] last = refl
last_is first (next ∷ answers) last = last_is next answers last

pub piece_behind : (subject : Subject) (octets : List ℕ) (answers : List (Option Answer)) (last : Option Answer)
    → next_piece subject octets (answers ++ last ∷ []) ≡ behind subject (octets_brought (answers ++ last ∷ [])) last
piece_behind subject octets [] last = refl
piece_behind subject octets (first ∷ answers) last =
    ap (behind subject (octets_brought (first ∷ (answers ++ last ∷ [])))) (last_is first answers last)

pub brought_append : (answers : List (Option Answer)) (answer : Answer)
    → octets_brought (answers ++ Some answer ∷ []) ≡ octets_brought answers ++ octets_in answer
brought_append answers answer =
    flat_map-append (of_answer octets_in) answers (Some answer ∷ [])
    ∙ ap (λ xs. octets_brought answers ++ xs) (append-nil (octets_in answer))

last_unrefused : (refusal : Answer → Option ℕ) (place : ℕ) (answers : List (Option Answer)) (last : Option Answer)
    → first_refusal refusal place (answers ++ last ∷ []) ≡ None → refusal_in refusal last ≡ None
last_unrefused refusal place [] last none = (first_none (refusal_in refusal last) place None none).0
last_unrefused refusal place (first ∷ answers) last none =
    last_unrefused refusal (place + 1) answers last
    (first_none (refusal_in refusal first) place (first_refusal refusal (place + 1) (answers ++ last ∷ [])) none).1

-- ---- the octets of all answers

ends_by : (b : Bool) (next : Question) → b ≡ true → cond b (Some next) None ≡ None → ⊥
ends_by true next is ends = cc
ends_by false next is ends = cc

-- where nothing is asked behind an answer, the octets are whole with it
last_whole : (subject : Subject) (so_far all : List ℕ) (answer : Answer) → GoesBehind subject so_far answer
    → telegram_refusal answer ≡ None → behind subject all (Some answer) ≡ None
    → is_whole subject (so_far ++ octets_in answer) ≡ true
last_whole subject so_far all (brings octet true octets) goes unrefused ends =
    let room : Bool = not (is_refused so_far (record { octets = octets; more = true })) in
    let pieces = (and_parts room (comes_in_pieces subject) goes).1 in
    absurd (ends_by (comes_in_pieces subject) (asks_further subject octet all) pieces ends)
last_whole subject so_far all (brings octet false octets) goes unrefused ends =
    let room : Bool = not (is_refused so_far (record { octets = octets; more = false })) in
    (and_parts room (is_whole subject (so_far ++ octets)) goes).1
last_whole subject so_far all (refuses error) goes unrefused ends = absurd (cc)
last_whole subject so_far all _ goes unrefused ends = absurd goes

whole_by : (subject : Subject) (octets : List ℕ) (rows : List Row) → AsksLast (asking_about subject octets) rows
    → AllByRecursion IsAnswered rows
    → first_refusal telegram_refusal 0 (answers_of rows) ≡ None → next_piece subject octets (answers_of rows) ≡ None
    → (rows ≡ []) ⊎ HasLast rows → is_whole subject (octets_brought (answers_of rows)) ≡ true
whole_by subject octets rows last answered none ends (inl empty) =
    let first : Some (asks subject octets) ≡ None =
    ap (λ rs. next_piece subject octets (answers_of rs)) (sym empty) ∙ ends in
    absurd (cc)
whole_by subject octets rows last answered none ends (inr h) =
    let front : List Row = h.0 in
    let row : Row = h.1 in
    let said = last front row h.2 in
    let known = (all_parts IsAnswered front (row ∷ []) (subst (AllByRecursion IsAnswered) h.2 answered)).1.0 in
    let answer : Answer = known.0 in
    let told = said.answered answer known.1 in
    let goes = piece_fits subject octets (answers_of front) row.question answer said.asked
    (answer_fits row.question row.number told.0 answer told.1) in
    let all : answers_of rows ≡ answers_of front ++ Some answer ∷ [] =
    ap answers_of h.2
    ∙ (map-append (λ (row : Row). row.answer) front (row ∷ []) ∙ ap (λ o. answers_of front ++ o ∷ []) known.1) in
    let unrefused = last_unrefused telegram_refusal 0 (answers_of front) (Some answer)
    (ap (first_refusal telegram_refusal 0) (sym all) ∙ none) in
    let over = sym (piece_behind subject octets (answers_of front) (Some answer))
    ∙ (ap (next_piece subject octets) (sym all) ∙ ends) in
    ap (λ os. is_whole subject (octets_brought os)) all
    ∙ (ap (is_whole subject) (brought_append (answers_of front) answer)
    ∙ last_whole subject (octets_brought (answers_of front)) (octets_brought (answers_of front ++ Some answer ∷ []))
    answer goes unrefused over)

-- The octets of all answers are whole, once they are there, none refuses and nothing is left to ask.
pub whole_brought : (subject : Subject) (octets : List ℕ) (rows : List Row)
    → AsksLast (asking_about subject octets) rows → AllByRecursion IsAnswered rows
    → first_refusal telegram_refusal 0 (answers_of rows) ≡ None → next_piece subject octets (answers_of rows) ≡ None
    → is_whole subject (octets_brought (answers_of rows)) ≡ true
whole_brought subject octets rows last answered none ends =
    whole_by subject octets rows last answered none ends (last_if rows)
