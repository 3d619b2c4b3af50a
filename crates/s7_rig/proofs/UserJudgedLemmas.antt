-- How a session judges controls and user data.
use Rattle.std.proofs.Common.{◌≡◌, ℕ, suc, ◌+◌, ◌<◌, ◌≤◌, Bool, true, false, ◌&&◌, ◌||◌, cond, eqb, Ok, List, [], ◌∷◌}
use Rattle.std.proofs.Common.{◌++◌, length, refl, ap, ◌∙◌, arith}
use Rattle.std.specs.Prelude.{Option, None, Some, not, is_some}
use Rattle.std.specs.Str.{bytes_eq}
use Rattle.std.proofs.lemmas.Bool.{and_from, eq-eqb}
use Rattle.s7_outer.specs.Numbers.{two_octets}
use Rattle.s7_header.specs.Negotiation.{most_pdu}
use Rattle.s7_header.specs.Octets.{number_at}
use Rattle.s7_header.specs.UserParams.{user_spelling}
use Rattle.s7_header.proofs.UserLemmas.{spelled_user}
use Rattle.s7_block.specs.declared.block.BlockName.{BlockName}
use Rattle.s7_block.specs.Kinds.{head_code}
use Rattle.s7_block.specs.Names.{is_name, named}
use Rattle.s7_clock.specs.Control.{control_of, control_spelling, is_control}
use Rattle.s7_clock.specs.Moment.{moment_in}
use Rattle.s7_clock.specs.declared.control.Control.{Control}
use Rattle.s7_clock.specs.declared.control.Control.TheVariants as control
use Rattle.s7_clock.proofs.ControlLemmas.{control_again}
use Rattle.s7_dialogue.proofs.FlightLemmas.{same_some}
use Rattle.s7_area.specs.declared.guard.Guard.{Guard}
use Rattle.s7_plant.specs.declared.request.Request.{Request}
use Rattle.s7_plant.specs.declared.request.Request.TheVariants as plain
use Rattle.s7_dialogue.specs.declared.questions.subject.Subject.{Subject}
use Rattle.s7_dialogue.specs.declared.questions.subject.Subject.TheVariants.{StatusList, RunState, Clock, ClockSetting, Password}
use Rattle.s7_dialogue.specs.declared.questions.subject.Subject.TheVariants.{PasswordClearing, BlockCounts, BlocksOfKind, BlockHead}
use Rattle.s7_dialogue.specs.declared.questions.subject.Subject.TheVariants.{DataHead}
use Rattle.s7_dialogue.specs.UserData.{group_of, subfunction_of, request_params, further_params, data_of, comes_in_pieces}
use Rattle.s7_dialogue.specs.Question.{Question, controls, asks, asks_further, kind_of, params_of, body_of}
use Rattle.s7_dialogue.specs.Question.{is_numbered, question_octets}
use Rattle.s7_dialogue.specs.Dialogue.{kind_octets}
use Rattle.s7_session.specs.Errors.{WRONG_PASSWORD, NO_RIGHT, error_of}
use Rattle.s7_session.specs.Judgement as session
use Rattle.s7_session.specs.Judgement.{Judgement, judge, own, kinds, job, asks_plainly, asks_user, control_in}
use Rattle.s7_session.specs.Judgement.{function, function_at, group, user_at, slice_octets, slices_left, further_of}
use Rattle.s7_session.specs.Judgement.{further, list_read, clock_set, clock_set_to, user_octets, user_answer}
use Rattle.s7_session.specs.Judgement.{group_of_answer, secured, password_set, password_cleared}
use Rattle.s7_session.specs.Judgement.{block_told, informed, refuse}
use Rattle.s7_session.specs.LinkState.{LinkState, next_octet}
use Rattle.s7_session.specs.Passwords.{decoded, no_data, set_error, clear_error}
use Rattle.s7_rig.specs.Exchanges.{HoldsRest, request_of}
use Rattle.s7_rig.proofs.DeleteLemmas.{deletion, delete_read, delete_unread, unstored}
use Rattle.s7_rig.proofs.JudgedLemmas.{judged_question, chosen, not_refused, within}

-- a telegram under a sequence of the client's own, on a link on which this PDU was granted, that has room in it
pub record IsSent (link : LinkState) (pdu s : ℕ) (q : Question) : Type 0 where
  pub numbered : is_numbered q ≡ true
  pub granted : link.granted ≡ Some pdu
  pub low : s < 65536
  pub most : pdu ≤ most_pdu
  pub fits : length (question_octets s q) ≤ pdu

pub judged_sent : (link : LinkState) (pdu s : ℕ) (q : Question) → IsSent link pdu s q
    → judge link (question_octets s q) ≡ kinds link (kind_of q) s (params_of q) (body_of q)
judged_sent link pdu s q sent =
    judged_question link s q sent.numbered sent.low (omega (arith, sent.most, sent.fits))
    (within link pdu _ sent.granted sent.fits)

-- ---- controls

-- what a control asks
plainly_asked : (link : LinkState) (s : ℕ) (c : Control) (request : Request) → request_of c ≡ Some request
    → session.control_asked link s c ≡ asks_plainly link s request
plainly_asked link s control.Start request asked = ap (asks_plainly link s) (same_some _ request asked)
plainly_asked link s control.ColdStart request asked = ap (asks_plainly link s) (same_some _ request asked)
plainly_asked link s control.Stop request asked = ap (asks_plainly link s) (same_some _ request asked)
plainly_asked link s control.Compress request asked = ap (asks_plainly link s) (same_some _ request asked)
plainly_asked link s control.CopyRam request asked = ap (asks_plainly link s) (same_some _ request asked)
plainly_asked link s (control.Insert kind number) request asked = absurd (cc)
plainly_asked link s (control.Delete kind number) request asked =
    let d = deletion kind number request asked in
    chosen _ _ _ d.stored ∙ ap (asks_plainly link s) d.is

asked_by : (link : LinkState) (pdu s code : ℕ) (c : Control) (request : Request) → is_control c ≡ true
    → function link pdu code s (control_spelling c) [] ≡ control_in link s [] (control_of (control_spelling c))
    → link.granted ≡ Some pdu → request_of c ≡ Some request
    → function_at link link.granted code s (control_spelling c) [] ≡ asks_plainly link s request
asked_by link pdu s code c request is same granted asked =
    ap (λ g. function_at link g code s (control_spelling c) []) granted
    ∙ (same ∙ (ap (control_in link s []) (control_again c is) ∙ plainly_asked link s c request asked))

control_asked : (link : LinkState) (pdu s : ℕ) (c : Control) (request : Request) → link.granted ≡ Some pdu
    → request_of c ≡ Some request → job link s (control_spelling c) [] ≡ asks_plainly link s request
control_asked link pdu s control.Start request granted asked =
    asked_by link pdu s 0x28 control.Start request refl refl granted asked
control_asked link pdu s control.ColdStart request granted asked =
    asked_by link pdu s 0x28 control.ColdStart request refl refl granted asked
control_asked link pdu s control.Stop request granted asked =
    asked_by link pdu s 0x29 control.Stop request refl refl granted asked
control_asked link pdu s control.Compress request granted asked =
    asked_by link pdu s 0x28 control.Compress request refl refl granted asked
control_asked link pdu s control.CopyRam request granted asked =
    asked_by link pdu s 0x28 control.CopyRam request refl refl granted asked
control_asked link pdu s (control.Insert kind number) request granted asked = absurd (cc)
control_asked link pdu s (control.Delete kind number) request granted asked =
    asked_by link pdu s 0x28 (control.Delete kind number) request (deletion kind number request asked).read refl granted
    asked

-- a control that the plant serves is asked
pub judged_control : (link : LinkState) (pdu s : ℕ) (c : Control) (request : Request)
    → IsSent link pdu s (controls c) → request_of c ≡ Some request
    → judge link (question_octets s (controls c)) ≡ asks_plainly link s request
judged_control link pdu s c request sent asked =
    judged_sent link pdu s (controls c) sent ∙ control_asked link pdu s c request sent.granted asked

-- it is refused with this error word
abbrev pub RefusesWith : Judgement → ℕ → Type 0
RefusesWith j error = (refusal : _) × (j ≡ refuse refusal) × (error_of refusal ≡ error)

-- a deletion that the plant isn't asked for is refused, and can't be read where there can be no such block
barred_asked : (link : LinkState) (s kind number : ℕ) (name : Bool) → is_name kind number ≡ name
    → request_of (control.Delete kind number) ≡ None
    → RefusesWith (control_in link s [] (control_of (control_spelling (control.Delete kind number))))
    (cond name 0x8F03 0x8404)
barred_asked link s kind number true is none = (
  _,
  ap (control_in link s []) (control_again (control.Delete kind number) (delete_read kind number is))
      ∙ not_refused _ _ _ (unstored kind number none is),
  refl,
)
barred_asked link s kind number false is none =
    (_, ap (control_in link s []) (delete_unread kind number is), refl)

pub judged_barred : (link : LinkState) (pdu s kind number : ℕ)
    → IsSent link pdu s (controls (control.Delete kind number)) → request_of (control.Delete kind number) ≡ None
    → RefusesWith (judge link (question_octets s (controls (control.Delete kind number))))
    (cond (is_name kind number) 0x8F03 0x8404)
judged_barred link pdu s kind number sent none =
    let c = control.Delete kind number in
    let barred = barred_asked link s kind number (is_name kind number) refl none in (
      barred.0,
      judged_sent link pdu s (controls c) sent
          ∙ (ap (λ g. function_at link g 0x28 s (control_spelling c) []) sent.granted ∙ barred.1),
      barred.2,
    )

-- ---- user data

judged_asks : (link : LinkState) (pdu s : ℕ) (subject : Subject) (octets : List ℕ)
    → IsSent link pdu s (asks subject octets)
    → judge link (question_octets s (asks subject octets))
    ≡ group link pdu s (data_of octets) (Ok (request_params subject))
judged_asks link pdu s subject octets sent =
    let u = request_params subject in
    let body = data_of octets in
    judged_sent link pdu s (asks subject octets) sent
    ∙ (ap (λ g. user_at link g s (user_spelling u) body) sent.granted
    ∙ ap (group link pdu s body)
    (spelled_user u
    (record { form = record { unit = refl; more = refl; error = refl }; error = omega arith })))

-- data with octets
sized_data : (octets : List ℕ) (n : ℕ) → length octets ≡ suc n
    → data_of octets ≡ 0xFF ∷ 0x09 ∷ (two_octets (suc n) ++ octets)
sized_data [] n is = absurd (omega (arith, is))
sized_data (x ∷ xs) n is = ap (λ k. 0xFF ∷ 0x09 ∷ (two_octets k ++ x ∷ xs)) is

data_long : (octets : List ℕ) (n k : ℕ) → 4 + length octets ≡ k
    → eqb (length (0xFF ∷ 0x09 ∷ (two_octets n ++ octets))) k ≡ true
data_long octets n k is = eq-eqb (length (0xFF ∷ 0x09 ∷ (two_octets n ++ octets))) k (omega (arith, is))

-- those of a status list name its id and index
list_asked : (link : LinkState) (pdu s : ℕ) (octets : List ℕ) → length octets ≡ 4
    → list_read link pdu s (data_of octets)
    ≡ asks_user link pdu s 0x44 0x01 false (λ moment. plain.Szl (number_at octets 0) (number_at octets 2))
list_asked link pdu s octets four =
    ap (list_read link pdu s) (sized_data octets 3 four)
    ∙ chosen _ _ _ (and_from _ _ (data_long octets 4 8 (omega (arith, four))) refl)

head_told : (link : LinkState) (pdu s : ℕ) (octets : List ℕ) (name : Option BlockName) → length octets ≡ 8
    → named octets 0x41 ≡ name → informed link pdu s (block_told (data_of octets)) ≡ informed link pdu s name
head_told link pdu s octets name eight is =
    ap (λ body. informed link pdu s (block_told body)) (sized_data octets 7 eight) ∙ ap (informed link pdu s) is

module _ {link : LinkState} {pdu s : ℕ} where
  pub judged_list : (octets : List ℕ) → IsSent link pdu s (asks StatusList octets) → length octets ≡ 4
      → judge link (question_octets s (asks StatusList octets))
      ≡ asks_user link pdu s 0x44 0x01 false (λ moment. plain.Szl (number_at octets 0) (number_at octets 2))
  judged_list octets sent four = judged_asks link pdu s StatusList octets sent ∙ list_asked link pdu s octets four

  pub judged_state : (octets : List ℕ) → IsSent link pdu s (asks RunState octets) → length octets ≡ 4
      → judge link (question_octets s (asks RunState octets))
      ≡ asks_user link pdu s 0x44 0x01 false (λ moment. plain.Szl (number_at octets 0) (number_at octets 2))
  judged_state octets sent four = judged_asks link pdu s RunState octets sent ∙ list_asked link pdu s octets four

  -- a clock is read at the moment
  pub judged_clock : (octets : List ℕ) → IsSent link pdu s (asks Clock octets)
      → judge link (question_octets s (asks Clock octets))
      ≡ asks_user link pdu s 0x47 0x01 true (λ moment. plain.ClockRead moment)
  judged_clock octets sent = judged_asks link pdu s Clock octets sent

  -- and set to the moment that the octets say
  pub judged_setting : (value : ℕ) (octets : List ℕ) → IsSent link pdu s (asks ClockSetting octets) → length octets ≡ 10
      → moment_in octets ≡ Some value
      → judge link (question_octets s (asks ClockSetting octets))
      ≡ asks_user link pdu s 0x47 0x02 true (λ moment. plain.ClockSet moment value)
  judged_setting value octets sent ten says =
      judged_asks link pdu s ClockSetting octets sent
      ∙ (ap (clock_set link pdu s) (sized_data octets 9 ten)
      ∙ (chosen _ _ _ (and_from _ _ (data_long octets 10 14 (omega (arith, ten))) refl)
      ∙ ap (clock_set_to link pdu s) says))

  -- ---- blocks

  pub judged_counts : (octets : List ℕ) → IsSent link pdu s (asks BlockCounts octets)
      → judge link (question_octets s (asks BlockCounts octets))
      ≡ asks_user link pdu s 0x43 0x01 false (λ moment. plain.ListAll)
  judged_counts octets sent = judged_asks link pdu s BlockCounts octets sent

  -- a kind that there is has its blocks listed, and another is refused
  pub judged_kind : (kind : ℕ) (there : Bool) → IsSent link pdu s (asks BlocksOfKind (kind_octets kind))
      → is_some (head_code kind) ≡ there
      → judge link (question_octets s (asks BlocksOfKind (kind_octets kind)))
      ≡ cond there (asks_user link pdu s 0x43 0x02 false (λ moment. plain.ListOf kind)) (informed link pdu s None)
  judged_kind kind there sent is =
      judged_asks link pdu s BlocksOfKind (kind_octets kind) sent
      ∙ ap (λ b. cond b (asks_user link pdu s 0x43 0x02 false (λ moment. plain.ListOf kind)) (informed link pdu s None))
      is

  -- the head is told of the block that the octets name, if they name one
  pub judged_head : (octets : List ℕ) (name : Option BlockName) → IsSent link pdu s (asks BlockHead octets)
      → length octets ≡ 8 → named octets 0x41 ≡ name
      → judge link (question_octets s (asks BlockHead octets)) ≡ informed link pdu s name
  judged_head octets name sent eight is =
      judged_asks link pdu s BlockHead octets sent ∙ head_told link pdu s octets name eight is

  pub judged_data : (octets : List ℕ) (name : Option BlockName) → IsSent link pdu s (asks DataHead octets)
      → length octets ≡ 8 → named octets 0x41 ≡ name
      → judge link (question_octets s (asks DataHead octets)) ≡ informed link pdu s name
  judged_data octets name sent eight is =
      judged_asks link pdu s DataHead octets sent ∙ head_told link pdu s octets name eight is

-- ---- passwords

-- It is answered with this error word, and without octets.
pub record IsSecured (link : LinkState) (s group subfunction error : ℕ) (j : Judgement) : Type 0 where
  pub right : Bool
  pub small : error < 65536
  pub is : j
      ≡ own
      (user_octets s (user_answer (group_of_answer group) subfunction (next_octet link.user_sequence) error) no_data
      ∷ [])
      (secured link right)

error_small : (good : Bool) (n : ℕ) → n < 65536 → cond good 0 n < 65536
error_small true n small = omega arith
error_small false n small = small

set_small : (guard : Option Guard) (text : List ℕ) → set_error guard text < 65536
set_small None text = omega arith
set_small (Some guard) text = error_small (bytes_eq text guard.password) WRONG_PASSWORD (omega arith)

clear_small : (guard : Option Guard) (right : Bool) → clear_error guard right < 65536
clear_small None right = omega arith
clear_small (Some guard) right = error_small right NO_RIGHT (omega arith)

pub judged_password : (link : LinkState) (pdu s : ℕ) (octets : List ℕ) → IsSent link pdu s (asks Password octets)
    → length octets ≡ 8
    → IsSecured link s 0x45 0x01 (set_error link.guard (decoded octets))
    (judge link (question_octets s (asks Password octets)))
judged_password link pdu s octets sent eight =
    let error = set_error link.guard (decoded octets) in
    record {
      right = link.right || eqb error 0;
      small = set_small link.guard (decoded octets);
      is = judged_asks link pdu s Password octets sent
          ∙ (ap (password_set link s) (sized_data octets 7 eight)
          ∙ chosen _ _ _ (and_from _ _ (data_long octets 8 12 (omega (arith, eight))) refl));
    }

pub judged_clearing : (link : LinkState) (pdu s : ℕ) (octets : List ℕ)
    → IsSent link pdu s (asks PasswordClearing octets) → octets ≡ []
    → IsSecured link s 0x45 0x02 (clear_error link.guard link.right)
    (judge link (question_octets s (asks PasswordClearing octets)))
judged_clearing link pdu s octets sent none =
    let error = clear_error link.guard link.right in
    record {
      right = link.right && not (eqb error 0);
      small = clear_small link.guard link.right;
      is = judged_asks link pdu s PasswordClearing octets sent
          ∙ ap (λ xs. password_cleared link s (data_of xs)) none;
    }

-- ---- further octets

judged_long : (link : LinkState) (pdu s octet : ℕ) (subject : Subject) (so_far : List ℕ)
    → IsSent link pdu s (asks_further subject octet so_far)
    → judge link (question_octets s (asks_further subject octet so_far))
    ≡ group link pdu s no_data (Ok (further_params subject octet))
judged_long link pdu s octet subject so_far sent =
    let u = further_params subject octet in
    judged_sent link pdu s (asks_further subject octet so_far) sent
    ∙ (ap (λ g. user_at link g s (user_spelling u) no_data) sent.granted
    ∙ ap (group link pdu s no_data) (spelled_user u (record { form = tt; error = omega arith })))

-- what is held goes on
abbrev pub goes_on_from : LinkState → ℕ → ℕ → Subject → ℕ → List ℕ → Judgement
goes_on_from link pdu s subject octet rest =
    own (slice_octets s (group_of subject) (subfunction_of subject) octet pdu rest ∷ [])
    (record link { sliced = slices_left (group_of subject) (subfunction_of subject) octet pdu rest })

held_goes_on : (link : LinkState) (pdu s octet : ℕ) (subject : Subject) (so_far : List ℕ)
    (h : HoldsRest link subject octet so_far)
    → further link pdu s (further_params subject octet) no_data ≡ goes_on_from link pdu s subject octet h.held.rest
held_goes_on link pdu s octet subject so_far h =
    ap (further_of link pdu s (further_params subject octet)) h.is
    ∙ chosen _ _ _
    (and_from _ _ (and_from _ _ (eq-eqb _ _ h.group) (eq-eqb _ _ h.subfunction)) (eq-eqb _ _ h.sequence))

pub judged_further : (link : LinkState) (pdu s octet : ℕ) (subject : Subject) (so_far : List ℕ)
    → IsSent link pdu s (asks_further subject octet so_far) → comes_in_pieces subject ≡ true
    → (h : HoldsRest link subject octet so_far)
    → judge link (question_octets s (asks_further subject octet so_far))
    ≡ goes_on_from link pdu s subject octet h.held.rest
judged_further link pdu s octet StatusList so_far sent pieces h =
    judged_long link pdu s octet StatusList so_far sent ∙ held_goes_on link pdu s octet StatusList so_far h
judged_further link pdu s octet RunState so_far sent pieces h =
    judged_long link pdu s octet RunState so_far sent ∙ held_goes_on link pdu s octet RunState so_far h
judged_further link pdu s octet BlockCounts so_far sent pieces h =
    judged_long link pdu s octet BlockCounts so_far sent ∙ held_goes_on link pdu s octet BlockCounts so_far h
judged_further link pdu s octet BlocksOfKind so_far sent pieces h =
    judged_long link pdu s octet BlocksOfKind so_far sent ∙ held_goes_on link pdu s octet BlocksOfKind so_far h
judged_further link pdu s octet BlockHead so_far sent pieces h =
    judged_long link pdu s octet BlockHead so_far sent ∙ held_goes_on link pdu s octet BlockHead so_far h
judged_further link pdu s octet DataHead so_far sent pieces h =
    judged_long link pdu s octet DataHead so_far sent ∙ held_goes_on link pdu s octet DataHead so_far h
judged_further link pdu s octet Clock so_far sent pieces h = absurd (cc)
judged_further link pdu s octet ClockSetting so_far sent pieces h = absurd (cc)
judged_further link pdu s octet Password so_far sent pieces h = absurd (cc)
judged_further link pdu s octet PasswordClearing so_far sent pieces h = absurd (cc)
