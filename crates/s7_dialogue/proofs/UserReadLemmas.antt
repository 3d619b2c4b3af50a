-- Lemmas on what messages tell of the answers to what a job asks alone.
use Rattle.std.proofs.Common.{◌≡◌, ℕ, ◌+◌, ◌≤◌, Bool, true, false, not, eqb, Option, Some, None, Ok}
use Rattle.std.proofs.Common.{List, [], ◌∷◌, ◌++◌, length, take, drop, refl, sym, ap, ◌∙◌, subst, arith}
use Rattle.std.specs.Prelude.{◌==◌, ◌&&◌, ◌||◌, if◌then◌else◌, IfSome, IfNone, MatchOption, Result}
use Rattle.std.proofs.Math.Path.{ap₂}
use Rattle.std.proofs.lemmas.Bool.{and_parts, le-ltb}
use Rattle.std.proofs.lemmas.List.{length-append, take_at}
use Rattle.std.proofs.lemmas.Slice.{take-put_mid}
use borrow.Rule.Slice.PartMut.{put_mid}
use Rattle.s7_header.specs.declared.header.Header.{Header}
use Rattle.s7_header.specs.declared.header.Kind.{Kind}
use Rattle.s7_header.specs.declared.header.Kind.TheVariants as kind
use Rattle.s7_header.specs.Header.{header_of, params_of, body_of}
use Rattle.s7_header.specs.UserParams.{user_params_of}
use Rattle.s7_header.specs.declared.user_params.UserParams.{UserParams}
use Rattle.s7_header.specs.declared.faults.BadParams.{BadParams}
use Rattle.s7_szl.specs.Joining.{is_refused}
use Rattle.s7_item.specs.declared.item.Item.{Item}
use Rattle.s7_dialogue.specs.declared.job.Job.{Job}
use Rattle.s7_dialogue.specs.declared.transfers.data_block.DataBlock.{DataBlock}
use Rattle.s7_dialogue.specs.declared.transfers.data_block.Place.{Place}
use Rattle.s7_dialogue.specs.declared.questions.subject.Subject.{Subject}
use Rattle.s7_dialogue.specs.declared.questions.subject.Subject.TheVariants.{DataHead}
use Rattle.s7_dialogue.specs.declared.transfers.download.Pieces.{Pieces}
use Rattle.s7_dialogue.specs.declared.stages.single.Ask.{Ask}
use Rattle.s7_dialogue.specs.declared.stages.single.Ask.TheVariants as ask
use Rattle.s7_dialogue.specs.declared.transfers.user_data.Told.{Told}
use Rattle.s7_dialogue.specs.declared.transfers.user_data.Told.TheVariants as told
use Rattle.s7_dialogue.specs.UserData.{is_whole, goes_on_with}
use Rattle.s7_dialogue.specs.Question.{Question}
use Rattle.s7_dialogue.specs.Answer.{Answer, brings, refuses, acknowledged, by_params, answered_by_user, by_kind, answer_of}
use Rattle.s7_dialogue.specs.Answer.{awaits_server, called, by_call}
use Rattle.s7_dialogue.specs.DataPlaces.{part_at, question_for, has_pdu, is_inside}
use Rattle.s7_dialogue.specs.Stages.{question_of_single, is_writable}
use Rattle.s7_dialogue.specs.Singles.{TellsSingle, TellsIfSome, IsWholeIfLast}
use Rattle.s7_dialogue.proofs.AnswerLemmas.{at_kind, at_call}
use Rattle.s7_dialogue.proofs.BringLemmas.{GoesBehind, params_fit}
use Rattle.s7_dialogue.proofs.DataReadLemmas.{place_within}

-- what is told of an answer, behind the octets that came, and nothing where there is none
abbrev pub IsToldSingle : Ask → List ℕ → Option Told → Option Answer → Type 0
IsToldSingle asked so_far result answer =
    MatchOption result (answer ≡ None) (λ told. TellsIfSome asked so_far told answer)

pub some_told : (asked : Ask) (so_far : List ℕ) (result : Option Told) (answer : Option Answer)
    → IsToldSingle asked so_far result answer → IfSome result (λ told. TellsIfSome asked so_far told answer)
some_told asked so_far None answer told = tt
some_told asked so_far (Some x) answer told = told

pub none_told : (asked : Ask) (so_far : List ℕ) (result : Option Told) (answer : Option Answer)
    → IsToldSingle asked so_far result answer → IfNone result (answer ≡ None)
none_told asked so_far None answer told = told
none_told asked so_far (Some x) answer told = tt

-- ---- whose message it is

part_mine : (value : Option ℕ) (item : Item) → awaits_server (question_for value item) ≡ false
part_mine None item = refl
part_mine (Some value) item = refl

-- a job of the server's is awaited for these alone
pub awaits_none : (job : Job) (asked : Ask) (so_far : List ℕ)
    → ((pieces : Pieces) → asked ≡ ask.AwaitCall pieces → ⊥)
    → ((pieces : Pieces) (from call : ℕ) → asked ≡ ask.Give pieces from call → ⊥)
    → awaits_server (question_of_single job asked so_far) ≡ false
awaits_none job (ask.AwaitCall pieces) so_far first behind = absurd (first pieces refl)
awaits_none job (ask.Give pieces from call) so_far first behind = absurd (behind pieces from call refl)
awaits_none job (ask.Part block place) so_far first behind = part_mine block.value (part_at block place)
awaits_none job _ so_far first behind = refl

-- what is told of a message with a header of this kind, and the sequence
pub kind_told : (job : Job) (asked : Ask) (so_far : List ℕ) (sequence : ℕ) (message : List ℕ) (h : Header)
    (kind : Kind) (result : Option Told) → awaits_server (question_of_single job asked so_far) ≡ false
    → header_of message ≡ Ok h → h.sequence ≡ sequence → h.kind ≡ kind
    → IsToldSingle asked so_far result (by_kind kind (question_of_single job asked so_far) h message)
    → IsToldSingle asked so_far result (answer_of (question_of_single job asked so_far) sequence message)
kind_told job asked so_far sequence message h kind result mine read same is told =
    subst (IsToldSingle asked so_far result)
    (sym (at_kind (question_of_single job asked so_far) sequence message h kind mine read same is)) told

-- or where a job of the server's is awaited
pub call_told : (job : Job) (asked : Ask) (so_far : List ℕ) (sequence : ℕ) (message : List ℕ) (h : Header)
    (result : Option Told) → awaits_server (question_of_single job asked so_far) ≡ true → header_of message ≡ Ok h
    → IsToldSingle asked so_far result (by_call h.kind (question_of_single job asked so_far) h message)
    → IsToldSingle asked so_far result (answer_of (question_of_single job asked so_far) sequence message)
call_told job asked so_far sequence message h result awaits read told =
    subst (IsToldSingle asked so_far result)
    (sym (at_call (question_of_single job asked so_far) sequence message h awaits read)) told

-- what its job tells where this is asked
pub call_of : (job : Job) (asked asks : Ask) (so_far message params body : List ℕ) (h : Header) (result : Option Told)
    (question : Question)
    → asked ≡ asks → h.kind ≡ kind.Job → params ≡ params_of message h → body ≡ body_of message h
    → question ≡ question_of_single job asks so_far
    → IsToldSingle asks so_far result (called question h.sequence params body)
    → IsToldSingle asked so_far result (by_call h.kind (question_of_single job asked so_far) h message)
call_of job asked asks so_far message params body h result question is kind_is front back same told =
    subst (λ (a : Ask). IsToldSingle a so_far result (by_call h.kind (question_of_single job a so_far) h message))
    (sym is)
    (subst
    (λ (k : Kind). IsToldSingle asks so_far result (by_call k (question_of_single job asks so_far) h message))
    (sym kind_is)
    (subst
    (λ (q : Question). IsToldSingle asks so_far result
    (called q h.sequence (params_of message h) (body_of message h)))
    same
    (subst (IsToldSingle asks so_far result) (ap₂ (called question h.sequence) front back) told)))

-- what an acknowledgement with data tells
pub acknowledgement_told : (job : Job) (asked : Ask) (so_far message params body : List ℕ) (h : Header)
    (result : Option Told)
    → params ≡ params_of message h → body ≡ body_of message h
    → IsToldSingle asked so_far result
    (if h.error == 0 then acknowledged (question_of_single job asked so_far) params body else None)
    → IsToldSingle asked so_far result (by_kind kind.AckData (question_of_single job asked so_far) h message)
acknowledgement_told job asked so_far message params body h result front back told =
    subst (IsToldSingle asked so_far result)
    (ap₂ (λ xs ys. if h.error == 0 then acknowledged (question_of_single job asked so_far) xs ys else None) front back)
    told

-- what is told where this is asked, and there is no error
pub told_of : (asked asks : Ask) (so_far params body : List ℕ) (error : ℕ) (result : Option Told) (job : Job)
    → asked ≡ asks → error ≡ 0
    → IsToldSingle asks so_far result (acknowledged (question_of_single job asks so_far) params body)
    → IsToldSingle asked so_far result
    (if error == 0 then acknowledged (question_of_single job asked so_far) params body else None)
told_of asked asks so_far params body error result job is none told =
    subst
    (λ (n : ℕ). IsToldSingle asked so_far result
    (if n == 0 then acknowledged (question_of_single job asked so_far) params body else None))
    (sym none)
    (subst
    (λ (a : Ask). IsToldSingle a so_far result (acknowledged (question_of_single job a so_far) params body))
    (sym is) told)

-- the first octets about something
no_octets : (xs : List ℕ) → length xs ≡ 0 → [] ≡ xs
no_octets [] none = refl
no_octets (x ∷ xs) none = absurd (omega (arith, none))

pub first_told : (job : Job) (asked : Ask) (subject : Subject) (so_far params body : List ℕ) (result : Option Told)
    → asked ≡ ask.About subject → length so_far ≡ 0
    → IsToldSingle (ask.About subject) [] result (by_params subject None [] body (user_params_of params))
    → IsToldSingle asked so_far result (answered_by_user (question_of_single job asked so_far) params body)
first_told job asked subject so_far params body result is none told =
    subst
    (λ (xs : List ℕ). IsToldSingle asked xs result (answered_by_user (question_of_single job asked xs) params body))
    (no_octets so_far none)
    (subst
    (λ (about : Ask). IsToldSingle about [] result (answered_by_user (question_of_single job about []) params body))
    (sym is) told)

-- it tells the same of further octets
tells_further : (subject : Subject) (octet : ℕ) (so_far : List ℕ) (t : Told) (answer : Option Answer)
    → TellsIfSome (ask.About subject) so_far t answer → TellsIfSome (ask.Further subject octet) so_far t answer
tells_further subject octet so_far t None tells = tells
tells_further subject octet so_far (told.Refused number) (Some answer) tells = tells
tells_further subject octet so_far (told.Brought octets next) (Some answer) tells = tells
tells_further subject octet so_far (told.Anew next) (Some answer) tells = tells

told_further : (subject : Subject) (octet : ℕ) (so_far : List ℕ) (result : Option Told) (answer : Option Answer)
    → IsToldSingle (ask.About subject) so_far result answer
    → IsToldSingle (ask.Further subject octet) so_far result answer
told_further subject octet so_far None answer none = none
told_further subject octet so_far (Some t) answer tells = tells_further subject octet so_far t answer tells

-- further octets about it
pub further_told : (job : Job) (asked : Ask) (subject : Subject) (octet : ℕ) (so_far params body : List ℕ)
    (result : Option Told) → asked ≡ ask.Further subject octet
    → IsToldSingle (ask.About subject) so_far result
    (by_params subject (Some octet) so_far body (user_params_of params))
    → IsToldSingle asked so_far result (answered_by_user (question_of_single job asked so_far) params body)
further_told job asked subject octet so_far params body result is told =
    subst
    (λ (about : Ask). IsToldSingle about so_far result
    (answered_by_user (question_of_single job about so_far) params body))
    (sym is)
    (told_further subject octet so_far result
    (by_params subject (Some octet) so_far body (user_params_of params)) told)

-- ---- the head of a data block

-- the first piece of one
pub first_of_head : (job : Job) (asked : Ask) (block : DataBlock) (so_far params body : List ℕ) (result : Option Told)
    → asked ≡ ask.Head block → length so_far ≡ 0
    → IsToldSingle (ask.Head block) [] result (by_params DataHead None [] body (user_params_of params))
    → IsToldSingle asked so_far result (answered_by_user (question_of_single job asked so_far) params body)
first_of_head job asked block so_far params body result is none told =
    subst
    (λ (xs : List ℕ). IsToldSingle asked xs result (answered_by_user (question_of_single job asked xs) params body))
    (no_octets so_far none)
    (subst
    (λ (head : Ask). IsToldSingle head [] result (answered_by_user (question_of_single job head []) params body))
    (sym is) told)

head_further : (block : DataBlock) (octet : ℕ) (so_far : List ℕ) (t : Told) (answer : Option Answer)
    → TellsIfSome (ask.Head block) so_far t answer → TellsIfSome (ask.HeadFurther block octet) so_far t answer
head_further block octet so_far t None tells = tells
head_further block octet so_far (told.Refused number) (Some answer) tells = tells
head_further block octet so_far (told.Brought octets next) (Some answer) tells = tells
head_further block octet so_far (told.Anew next) (Some answer) tells = tells

told_of_head : (block : DataBlock) (octet : ℕ) (so_far : List ℕ) (result : Option Told) (answer : Option Answer)
    → IsToldSingle (ask.Head block) so_far result answer
    → IsToldSingle (ask.HeadFurther block octet) so_far result answer
told_of_head block octet so_far None answer none = none
told_of_head block octet so_far (Some t) answer tells = head_further block octet so_far t answer tells

-- and a further one
pub further_of_head : (job : Job) (asked : Ask) (block : DataBlock) (octet : ℕ) (so_far params body : List ℕ)
    (result : Option Told) → asked ≡ ask.HeadFurther block octet
    → IsToldSingle (ask.Head block) so_far result
    (by_params DataHead (Some octet) so_far body (user_params_of params))
    → IsToldSingle asked so_far result (answered_by_user (question_of_single job asked so_far) params body)
further_of_head job asked block octet so_far params body result is told =
    subst
    (λ (head : Ask). IsToldSingle head so_far result
    (answered_by_user (question_of_single job head so_far) params body))
    (sym is)
    (told_of_head block octet so_far result
    (by_params DataHead (Some octet) so_far body (user_params_of params)) told)

-- the last piece tells a head
whole_if_last : (so_far : List ℕ) (answer : Answer) → GoesBehind DataHead so_far answer → IsWholeIfLast so_far answer
whole_if_last so_far (brings octet true octets) goes = λ last. absurd (let e : true ≡ false = last in cc)
whole_if_last so_far (brings octet false octets) goes = λ last.
    let room : Bool = not (is_refused so_far (record { octets = octets; more = false })) in
    (and_parts room (is_whole DataHead (so_far ++ octets)) goes).1
whole_if_last so_far (refuses error) goes = tt
whole_if_last so_far _ goes = absurd goes

-- What is told of a piece of a head: the answer is there.
pub record TellsPieceOf (so_far : List ℕ) (t : Told) (answer : Option Answer) : Type 0 where
  pub some : Answer
  pub is : answer ≡ Some some
  pub tells : TellsSingle (ask.About DataHead) so_far t some
  pub whole : IsWholeIfLast so_far some

tells_piece : (under : Option ℕ) (so_far body : List ℕ) (r : Result UserParams BadParams) (t : Told)
    (answer : Option Answer) → by_params DataHead under so_far body r ≡ answer
    → TellsIfSome (ask.About DataHead) so_far t answer → TellsPieceOf so_far t answer
tells_piece under so_far body r t None is tells = absurd tells
tells_piece under so_far body r t (Some answer) is tells = record {
  some = answer;
  is = refl;
  tells = tells;
  whole = whole_if_last so_far answer (params_fit DataHead under so_far body r answer is);
}

pub piece_of_head : (under : Option ℕ) (so_far body params : List ℕ) (result : Option Told) (t : Told)
    → IsToldSingle (ask.About DataHead) so_far result
    (by_params DataHead under so_far body (user_params_of params))
    → result ≡ Some t
    → TellsPieceOf so_far t (by_params DataHead under so_far body (user_params_of params))
piece_of_head under so_far body params result t told is =
    tells_piece under so_far body (user_params_of params) t
    (by_params DataHead under so_far body (user_params_of params)) refl
    (subst
    (λ (o : Option Told). IsToldSingle (ask.About DataHead) so_far o
    (by_params DataHead under so_far body (user_params_of params)))
    is told)

-- a part that can be written is inside its data block
pub part_inside : (job : Job) (asked : Ask) (block : DataBlock) (place : Place) → asked ≡ ask.Part block place
    → is_writable job asked ≡ true → place.from + place.here ≤ 2097152
part_inside job asked block place is writable =
    let both =
    and_parts (has_pdu block) (is_inside place) (ap (is_writable job) (sym is) ∙ writable) in
    let within = place_within place both.1 in
    omega (arith, within.1)

-- ---- octets behind those that came

-- two pieces that were written one behind the other
pub joined : (first second so_far octets into : List ℕ) (a k n : ℕ) → a ≡ length so_far
    → n ≡ length so_far + length octets → first ≡ so_far → second ≡ octets
    → take n (put_mid a k (first ++ drop a into) second) ≡ so_far ++ octets
joined first second so_far octets into a k n long all is same =
    let front : length first ≡ a = ap length is ∙ sym long in
    let some : a ≤ length (first ++ drop a into) = omega (arith, length-append first (drop a into), front) in
    take-put_mid a k (first ++ drop a into) second n (omega (arith, all, long, ap length same)) some
    ∙ (ap (λ xs. xs ++ second) (take_at first (drop a into) a front ∙ is) ∙ ap (λ xs. so_far ++ xs) same)

-- the last piece goes on with what came where the answer is whole
pub last_goes_on : (subject : Subject) (so_far octets whole : List ℕ) (more : Bool) → more ≡ false
    → length so_far + length octets ≤ 8448 → whole ≡ so_far ++ octets
    → is_whole subject whole ≡ goes_on_with subject so_far more octets
last_goes_on subject so_far octets whole more last room is =
    ap (is_whole subject) is
    ∙ ap (λ b. not (b || (false && eqb (length octets) 0)) && is_whole subject (so_far ++ octets))
    (sym (le-ltb 8448 (length so_far + length octets) room))
    ∙ ap (λ m. goes_on_with subject so_far m octets) (sym last)
