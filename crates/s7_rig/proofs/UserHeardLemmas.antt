-- What a client hears of user data.
use Rattle.std.proofs.Common.{◌≡◌, ◌⊎◌, inl, inr, ℕ, ◌+◌, ◌-◌, ◌<◌, ◌≤◌, Bool, true, false, ◌||◌, cond, eqb, ltb, List, [], ◌∷◌, ◌++◌, length, take, drop, refl, ap, ◌∙◌, arith, length-append, append_assoc}
use Rattle.std.specs.Prelude.{Option, None, Some, not}
use Rattle.std.proofs.lemmas.Bool.{and_from, eq-eqb, ne_eqb, le-leb, le-ltb, lt-ltb, ltb-true, ltb-false}
use Rattle.std.proofs.lemmas.List.{length-take, length-take-le, length-drop, take_all, take-append-drop}
use Rattle.s7_header.specs.Negotiation.{most_pdu}
use Rattle.s7_header.specs.declared.header.Header.{Header}
use Rattle.s7_header.specs.declared.header.Kind.TheVariants.{User}
use Rattle.s7_header.specs.declared.user_params.UserParams.{UserParams}
use Rattle.s7_header.specs.Octets.{number_at}
use Rattle.s7_header.specs.UserParams.{user_spelling, user_params_of}
use Rattle.s7_header.proofs.HeaderLemmas.{spelled}
use Rattle.s7_header.proofs.OctetLemmas.{two_of_number}
use Rattle.s7_header.proofs.UserLemmas.{spelled_user}
use Rattle.s7_szl.specs.Joining.{is_refused}
use Rattle.s7_dialogue.specs.declared.questions.subject.Subject.{Subject}
use Rattle.s7_dialogue.specs.UserData.{group_of, subfunction_of, octets_in, comes_in_pieces, is_whole, goes_on_with}
use Rattle.s7_dialogue.specs.Question.{Question, is_numbered}
use Rattle.s7_dialogue.specs.Answer.{refuses, brings, brought, if_data, is_under, by_params, answered_by_user, answer_of}
use Rattle.s7_session.specs.Judgement.{user_octets, user_data, slice_room, slice_octets, slices_left}
use Rattle.s7_session.specs.LinkState.{LinkState, Sliced}
use Rattle.s7_session.specs.Passwords.{no_data}
use Rattle.s7_rig.specs.Exchanges.{HoldsMore}
use Rattle.s7_rig.proofs.AnsweredLemmas.{heard_by}

-- ---- parameters

-- those of an answer about something: its sequence octet, whether more follows, and its error word
abbrev pub told_params : Subject → ℕ → ℕ → ℕ → UserParams
told_params subject octet more error = record {
  answer = true;
  group = group_of subject + 0x40;
  sub = subfunction_of subject;
  sequence = octet;
  unit = 0;
  more = more;
  error = error;
}

-- The question asks about this, behind these octets, and under a sequence octet if it names one. It goes out under a
-- sequence of the client's own.
abbrev pub IsAbout : Question → Subject → Option ℕ → List ℕ → Type 0
IsAbout q subject under so_far =
    (is_numbered q ≡ true)
    × ((params body : List ℕ)
    → answered_by_user q params body ≡ by_params subject under so_far body (user_params_of params))

user_is_heard : (q : Question) (s octet more error : ℕ) (subject : Subject) (body : List ℕ) → is_numbered q ≡ true
    → s < 65536 → length body < 65536
    → answer_of q s (user_octets s (told_params subject octet more error) body)
    ≡ answered_by_user q (user_spelling (told_params subject octet more error)) body
user_is_heard q s octet more error subject body numbered low short =
    let u = told_params subject octet more error in
    let h : Header = record { kind = User; sequence = s; param_len = 12; body_len = length body; error = 0 } in
    heard_by q s (user_octets s u body) h numbered
    (spelled 0 0 h (user_spelling u) body
    (record {
      sequence = omega (arith, low);
      param_len = omega arith;
      body_len = omega (arith, short);
      error = omega arith;
      no_error = refl;
    })
    refl refl) refl

params_are_told : (subject : Subject) (under : Option ℕ) (octet more error : ℕ) (so_far body : List ℕ)
    → error < 65536 → more ≤ 1 → is_under under octet ≡ true
    → by_params subject under so_far body (user_params_of (user_spelling (told_params subject octet more error)))
    ≡ if_data subject so_far (told_params subject octet more error) (octets_in body)
params_are_told subject under octet more error so_far body small most is =
    let u = told_params subject octet more error in
    let g = group_of subject in
    let f = subfunction_of subject in
    ap (by_params subject under so_far body) (spelled_user u (record { form = tt; error = omega (arith, small) }))
    ∙ ap (λ t. cond t (if_data subject so_far u (octets_in body)) None)
    (and_from _ _ (and_from _ _ (eq-eqb (g + 0x40) (g + 0x40) refl)
    (and_from _ _ (eq-eqb f f refl) (le-leb more 1 most))) is)

-- an answer is heard by its error word and octets
told_is_heard : (q : Question) (subject : Subject) (under : Option ℕ) (s octet more error : ℕ)
    (so_far body octets : List ℕ) → IsAbout q subject under so_far → is_under under octet ≡ true → s < 65536
    → error < 65536 → more ≤ 1 → length body < 65536 → octets_in body ≡ Some octets
    → answer_of q s (user_octets s (told_params subject octet more error) body)
    ≡ brought subject so_far (told_params subject octet more error) octets
told_is_heard q subject under s octet more error so_far body octets about is low small most short has =
    let u = told_params subject octet more error in
    user_is_heard q s octet more error subject body about.0 low short
    ∙ (about.1 (user_spelling u) body
    ∙ (params_are_told subject under octet more error so_far body small most is
    ∙ ap (if_data subject so_far u) has))

-- ---- data

data_is_read : (octets : List ℕ) → octets_in (user_data octets) ≡ Some octets
data_is_read [] = refl
data_is_read (x ∷ xs) =
    let body = user_data (x ∷ xs) in
    ap (λ t. cond t (Some (x ∷ xs)) None)
    (and_from _ _ (lt-ltb 4 (length body) (omega arith))
    (eq-eqb (number_at body 2) (length body - 4) (two_of_number (length (x ∷ xs)) ∙ omega arith)))

length-data : (octets : List ℕ) → length (user_data octets) ≤ 4 + length octets
length-data [] = omega arith
length-data (x ∷ xs) = omega arith

pub length-told : (s octet more error : ℕ) (subject : Subject) (body : List ℕ)
    → length (user_octets s (told_params subject octet more error) body) ≡ 22 + length body
length-told s octet more error subject body = omega arith

-- ---- an error word

-- an answer with an error word refuses
pub error_is_heard : (q : Question) (subject : Subject) (under : Option ℕ) (s octet error : ℕ) (so_far : List ℕ)
    → IsAbout q subject under so_far → is_under under octet ≡ true → s < 65536 → error < 65536
    → eqb error 0 ≡ false
    → answer_of q s (user_octets s (told_params subject octet 0 error) no_data) ≡ Some (refuses error)
error_is_heard q subject under s octet error so_far about is low small bad =
    told_is_heard q subject under s octet 0 error so_far no_data [] about is low small (omega arith) (omega arith) refl
    ∙ ap (λ t. cond t (brought subject so_far (told_params subject octet 0 0) []) (Some (refuses error))) bad

-- and one with error word 0 is without octets
pub none_is_heard : (q : Question) (subject : Subject) (under : Option ℕ) (s octet error : ℕ) (so_far : List ℕ)
    → IsAbout q subject under so_far → is_under under octet ≡ true → s < 65536 → error < 65536
    → goes_on_with subject so_far false [] ≡ true → eqb error 0 ≡ true
    → answer_of q s (user_octets s (told_params subject octet 0 error) no_data) ≡ Some (brings octet false [])
none_is_heard q subject under s octet error so_far about is low small whole good =
    told_is_heard q subject under s octet 0 error so_far no_data [] about is low small (omega arith) (omega arith) refl
    ∙ (ap (λ t. cond t (brought subject so_far (told_params subject octet 0 0) []) (Some (refuses error))) good
    ∙ ap (λ t. cond t (Some (brings octet false [])) None) whole)

-- ---- octets

-- These octets are what is left of an answer behind those that came: together they are whole and have room, and where
-- an answer has no pieces they are few.
pub record IsRest (subject : Subject) (so_far rest : List ℕ) : Type 0 where
  pub whole : is_whole subject (so_far ++ rest) ≡ true
  pub most : length (so_far ++ rest) ≤ 8448
  pub short : (comes_in_pieces subject ≡ true) ⊎ (length rest ≤ 10)

comes_on : (pieces : Bool) (room : ℕ) (rest : List ℕ) → 10 ≤ room → (pieces ≡ true) ⊎ (length rest ≤ 10)
    → ltb room (length rest) ≡ true → pieces ≡ true
comes_on pieces room rest least (inl is) more = is
comes_on pieces room rest least (inr few) more = absurd (omega (arith, least, few, ltb-true room (length rest) more))

unrefused : (so_far octets : List ℕ) (more : Bool) → length so_far + length octets ≤ 8448
    → (more ≡ true → 0 < length octets)
    → not (is_refused so_far (record { octets = octets; more = more })) ≡ true
unrefused so_far octets true room some =
    ap (λ t. not (t || eqb (length octets) 0)) (le-ltb 8448 (length so_far + length octets) room)
    ∙ ap not (ne_eqb (length octets) 0 (λ e. omega (arith, e, some refl)))
unrefused so_far octets false room some =
    ap (λ t. not (t || false)) (le-ltb 8448 (length so_far + length octets) room)

-- the first octets go on with what came
goes_on : (subject : Subject) (so_far rest : List ℕ) (room : ℕ) (more : Bool) → 10 ≤ room
    → IsRest subject so_far rest → ltb room (length rest) ≡ more
    → goes_on_with subject so_far more (take room rest) ≡ true
goes_on subject so_far rest room true least r more =
    let over = ltb-true room (length rest) more in
    let taken = length-take-le room rest (omega (arith, over)) in
    and_from _ _ (unrefused so_far (take room rest) true
    (omega (arith, taken, over, r.most, length-append so_far rest)) (λ e. omega (arith, taken, least)))
    (comes_on (comes_in_pieces subject) room rest least r.short more)
goes_on subject so_far rest room false least r more =
    let all = take_all room rest (ltb-false room (length rest) more) in
    and_from _ _ (unrefused so_far (take room rest) false
    (omega (arith, ap length all, r.most, length-append so_far rest)) (λ e. absurd (cc)))
    (ap (λ xs. is_whole subject (so_far ++ xs)) all ∙ r.whole)

-- whether more follow, as an octet
last_unit : (more : Bool) → cond more 1 0 ≤ 1
last_unit true = omega arith
last_unit false = omega arith

unit_again : (more : Bool) → eqb (cond more 1 0) 1 ≡ more
unit_again true = refl
unit_again false = refl

slice_by : (q : Question) (subject : Subject) (under : Option ℕ) (s octet room : ℕ) (so_far rest : List ℕ)
    (more : Bool) → IsAbout q subject under so_far → is_under under octet ≡ true → s < 65536 → 10 ≤ room
    → room ≤ most_pdu → IsRest subject so_far rest → ltb room (length rest) ≡ more
    → answer_of q s (user_octets s (told_params subject octet (cond more 1 0) 0) (user_data (take room rest)))
    ≡ Some (brings octet more (take room rest))
slice_by q subject under s octet room so_far rest more about is low least few r sliced =
    let octets = take room rest in
    let long = length-data octets in
    told_is_heard q subject under s octet (cond more 1 0) 0 so_far (user_data octets) octets about is low (omega arith)
    (last_unit more) (omega (arith, long, length-take room rest, few)) (data_is_read octets)
    ∙ (ap (λ b. cond (goes_on_with subject so_far b octets) (Some (brings octet b octets)) None) (unit_again more)
    ∙ ap (λ t. cond t (Some (brings octet more octets)) None) (goes_on subject so_far rest room more least r sliced))

-- the first octets are brought, as many as a telegram takes
pub slice_is_heard : (q : Question) (subject : Subject) (under : Option ℕ) (s octet pdu : ℕ) (so_far rest : List ℕ)
    → IsAbout q subject under so_far → is_under under octet ≡ true → s < 65536 → 64 ≤ pdu → pdu ≤ most_pdu
    → IsRest subject so_far rest
    → answer_of q s (slice_octets s (group_of subject) (subfunction_of subject) octet pdu rest)
    ≡ Some (brings octet (ltb (slice_room pdu) (length rest)) (take (slice_room pdu) rest))
slice_is_heard q subject under s octet pdu so_far rest about is low least most r =
    slice_by q subject under s octet (slice_room pdu) so_far rest (ltb (slice_room pdu) (length rest)) about is low
    (omega (arith, least)) (omega (arith, most)) r refl

-- a telegram has room for them
pub length-slice : (s octet pdu : ℕ) (subject : Subject) (rest : List ℕ) → 64 ≤ pdu → pdu ≤ most_pdu
    → (10 ≤ length (slice_octets s (group_of subject) (subfunction_of subject) octet pdu rest))
    × (length (slice_octets s (group_of subject) (subfunction_of subject) octet pdu rest) ≤ most_pdu)
length-slice s octet pdu subject rest least most =
    let room = slice_room pdu in
    let body = user_data (take room rest) in
    let long = length-told s octet (cond (ltb room (length rest)) 1 0) 0 subject body in (
      omega (arith, long),
      omega (arith, long, length-data (take room rest), length-take room rest, least, most),
    )

-- ---- what is held

pub joined : (so_far rest : List ℕ) (room : ℕ) → (so_far ++ take room rest) ++ drop room rest ≡ so_far ++ rest
joined so_far rest room =
    append_assoc so_far (take room rest) (drop room rest) ∙ ap (λ xs. so_far ++ xs) (take-append-drop room rest)

-- the octets behind them are held
pub rest_is_held : (link : LinkState) (subject : Subject) (octet pdu : ℕ) (so_far rest : List ℕ)
    → link.sliced ≡ slices_left (group_of subject) (subfunction_of subject) octet pdu rest
    → IsRest subject so_far rest
    → HoldsMore (ltb (slice_room pdu) (length rest)) link subject octet (so_far ++ take (slice_room pdu) rest)
rest_is_held link subject octet pdu so_far rest sliced r = λ more.
    let room = slice_room pdu in
    let held : Sliced = record {
      group = group_of subject;
      subfunction = subfunction_of subject;
      sequence = octet;
      rest = drop room rest;
    } in
    let all = joined so_far rest room in
    record {
      held = held;
      is = sliced ∙ ap (λ t. cond t (Some held) None) more;
      group = refl;
      subfunction = refl;
      sequence = refl;
      some = omega (arith, ltb-true room (length rest) more, length-drop room rest);
      whole = ap (is_whole subject) all ∙ r.whole;
      most = omega (arith, ap length all, r.most);
    }
