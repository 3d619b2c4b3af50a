-- How a session on a link between two messages replies to each question of a job.
use Rattle.std.proofs.Common.{◌≡◌, inl, inr, ℕ, ◌<◌, ◌≤◌, Bool, true, false, cond, eqb, ltb, List, [], ◌++◌, length, take, drop, ap}
use Rattle.std.proofs.Common.{Option, None, Some, refl, sym, ◌∙◌, subst, arith}
use Rattle.std.specs.Prelude.{IsSome, is_some}
use Rattle.std.proofs.lemmas.Bool.{eq-eqb}
use Rattle.s7_header.specs.Negotiation.{most_pdu}
use Rattle.s7_header.specs.Octets.{number_at}
use Rattle.s7_item.specs.declared.item.Item.{Item}
use Rattle.s7_block.specs.declared.block.BlockName.{BlockName}
use Rattle.s7_block.specs.Kinds.{head_code}
use Rattle.s7_block.specs.Names.{number_in, is_name, named_by, named}
use Rattle.s7_clock.specs.Moment.{moment_in}
use Rattle.s7_plant.specs.declared.request.Request.{Request}
use Rattle.s7_plant.specs.declared.request.Request.TheVariants as plain
use Rattle.s7_plant.specs.declared.request.Request.TheVariants.{Read}
use Rattle.s7_plant.specs.State.{State}
use Rattle.s7_plant.specs.Answers as plant
use Rattle.s7_wire.specs.Sent.{sent_messages}
use Rattle.s7_dialogue.specs.declared.questions.subject.Subject.{Subject}
use Rattle.s7_dialogue.specs.declared.questions.subject.Subject.TheVariants.{StatusList, RunState, Clock, ClockSetting, Password}
use Rattle.s7_dialogue.specs.declared.questions.subject.Subject.TheVariants.{PasswordClearing, BlockCounts, BlocksOfKind, BlockHead}
use Rattle.s7_dialogue.specs.declared.questions.subject.Subject.TheVariants.{DataHead}
use Rattle.s7_dialogue.specs.UserData.{group_of, subfunction_of, goes_on_with, comes_in_pieces}
use Rattle.s7_dialogue.specs.Dialogue.{list_octets, kind_octets, block_octets}
use Rattle.s7_dialogue.proofs.FlightLemmas.{same_some}
use Rattle.s7_dialogue.specs.Question.{Question, negotiates, reads, writes, controls, asks, asks_further, question_octets}
use Rattle.s7_dialogue.specs.Question.{starts_upload, slices_upload, ends_upload, announces, awaits_call, gives, inserts}
use Rattle.s7_dialogue.specs.Question.{messages_of}
use Rattle.s7_dialogue.specs.Answer.{Answer, brings, refuses, answer_of}
use Rattle.s7_session.specs.Events.{lives}
use Rattle.s7_session.specs.LinkState.{LinkState, next_octet}
use Rattle.s7_session.specs.Owed.{past}
use Rattle.s7_session.specs.Judgement.{judge, plainly, by_user, asks_user, user_octets, secured}
use Rattle.s7_session.specs.Judgement.{slice_room, slice_octets, slices_left, informed}
use Rattle.s7_session.specs.Passwords.{decoded, no_data, set_error, clear_error}
use Rattle.s7_session.specs.Verdict.{Verdict}
use Rattle.s7_rig.specs.Settled.{Settled}
use Rattle.s7_rig.specs.Written.{own_write}
use Rattle.s7_rig.specs.Exchanges.{AsksFor, IsSecurity, IsReadyFor, HoldsRest, GoesOn, security_heard}
use Rattle.s7_rig.specs.Exchanges.{IsSecuredBy}
use Rattle.s7_rig.specs.Exchanges.{NamesNone, is_told, Replies, request_of, uploaded_of}
use Rattle.s7_rig.specs.Plants.{IsStateFor}
use Rattle.s7_rig.proofs.Askable.{IsAskable}
use Rattle.s7_rig.proofs.ControlReplyLemmas.{control_replied}
use Rattle.s7_rig.proofs.UploadReplyLemmas.{start_replied, slice_replied, end_replied}
use Rattle.s7_rig.proofs.RepliedLemmas.{IsServed, is_sent, asking_replied, link_replied, refused_replied}
use Rattle.s7_rig.proofs.UserFitLemmas.{list_fits, state_fits, clock_fits, setting_fits}
use Rattle.s7_rig.proofs.BlockFitLemmas.{counts_fit, kind_fits, head_fits, data_fits}
use Rattle.s7_rig.proofs.UserHeardLemmas.{IsRest, told_params, length-told, length-slice, error_is_heard}
use Rattle.s7_rig.proofs.UserHeardLemmas.{none_is_heard, slice_is_heard, rest_is_held}
use Rattle.s7_rig.proofs.UserJudgedLemmas.{IsSecured, judged_list, judged_state, judged_clock}
use Rattle.s7_rig.proofs.UserJudgedLemmas.{judged_setting, judged_password, judged_clearing, judged_further}
use Rattle.s7_rig.proofs.UserJudgedLemmas.{judged_counts, judged_kind, judged_head, judged_data}
use Rattle.s7_rig.proofs.UserServedLemmas.{IsFit, user_well}
use Rattle.s7_rig.proofs.JudgedLemmas.{judged_read}
use Rattle.s7_rig.proofs.AsksLemmas.{write_is_asked}
use Rattle.s7_rig.proofs.ReplyLemmas.{RepliesOnce, IsLeftOpen, IsGood, read_well, write_well}
use Rattle.s7_rig.proofs.OnceLemmas.{IsOne, one_numbered, alone_sent, once_replies}

-- ---- passwords

secured_heard : (good : Bool) (s octet error : ℕ) (subject : Subject) (octets : List ℕ) → s < 65536 → error < 65536
    → goes_on_with subject [] false [] ≡ true → eqb error 0 ≡ good
    → answer_of (asks subject octets) s (user_octets s (told_params subject octet 0 error) no_data)
    ≡ Some (cond good (brings octet false []) (refuses error))
secured_heard true s octet error subject octets low small whole is =
    none_is_heard (asks subject octets) subject None s octet error [] (refl, λ params body. refl) refl low small whole is
secured_heard false s octet error subject octets low small whole is =
    error_is_heard (asks subject octets) subject None s octet error [] (refl, λ params body. refl) refl low small is

secured_ends : (good : Bool) (link : LinkState) (octet error : ℕ) (subject : Subject) (octets : List ℕ)
    → GoesOn link (asks subject octets) (cond good (brings octet false []) (refuses error))
secured_ends true link octet error subject octets = λ more. absurd (cc)
secured_ends false link octet error subject octets = tt

secured_good : (link : LinkState) (pdu s octet error : ℕ) (subject : Subject) (octets : List ℕ)
    → s < 65536 → error < 65536 → IsSecurity subject → goes_on_with subject [] false [] ≡ true
    → IsGood pdu [] link (asks subject octets) s (user_octets s (told_params subject octet 0 error) no_data) []
secured_good link pdu s octet error subject octets low small security whole =
    let long = length-told s octet 0 error subject no_data in
    record {
      least = omega (arith, long);
      most = omega (arith, long);
      heard = record {
        answer = security_heard octet error;
        is = secured_heard (eqb error 0) s octet error subject octets low small whole refl;
        told = is_told (inr (inl (security, refl, octet, error, refl)));
        goes_on = secured_ends (eqb error 0) link octet error subject octets;
      };
    }

-- ---- further octets

further_good : (link : LinkState) (pdu s octet : ℕ) (subject : Subject) (so_far rest : List ℕ)
    → s < 65536 → 64 ≤ pdu → pdu ≤ most_pdu → IsRest subject so_far rest
    → link.sliced ≡ slices_left (group_of subject) (subfunction_of subject) octet pdu rest
    → IsGood pdu [] link (asks_further subject octet so_far) s
    (slice_octets s (group_of subject) (subfunction_of subject) octet pdu rest) []
further_good link pdu s octet subject so_far rest low least most r sliced =
    let long = length-slice s octet pdu subject rest least most in
    let room = slice_room pdu in
    record {
      least = long.0;
      most = long.1;
      heard = record {
        answer = brings octet (ltb room (length rest)) (take room rest);
        is = slice_is_heard (asks_further subject octet so_far) subject (Some octet) s octet pdu so_far rest
            (refl, λ params body. refl) (eq-eqb octet octet refl) low least most r;
        told = is_told (refl, rest, r.whole, refl);
        goes_on = rest_is_held link subject octet pdu so_far rest sliced r;
      };
    }

-- ---- the block that the octets of a name name

same_kind_by : (kind number : ℕ) (name : BlockName) (b : Bool)
    → cond b (Some (record { kind = kind; number = number })) None ≡ Some name → kind ≡ name.kind
same_kind_by kind number name true is =
    ap (λ (n : BlockName). n.kind) (same_some (record { kind = kind; number = number }) name is)
same_kind_by kind number name false is = absurd (cc)

same_kind : (kind : ℕ) (number : Option ℕ) (name : BlockName) → named_by kind number ≡ Some name → kind ≡ name.kind
same_kind kind None name is = absurd (cc)
same_kind kind (Some number) name is = same_kind_by kind number name (is_name kind number) is

names_data : (number : ℕ) (name : BlockName) → named (block_octets 0x41 number) 0x41 ≡ Some name → 0x41 ≡ name.kind
names_data number name is = same_kind 0x41 (number_in (take 5 (drop 2 (block_octets 0x41 number)))) name is

-- ---- each question

module _ (first : LinkState) (b : List ℕ) (js vs : List Verdict) (pdu s : ℕ) where
  -- the link before the question
  abbrev link : LinkState
  link = (past first b js).link

  read_replied : (items : List Item) → IsServed first b js vs pdu s (reads items) → IsAskable pdu (reads items)
      → RepliesOnce first b js vs pdu (reads items) s
  read_replied items served can =
      asking_replied served (plainly link s (Read items))
      (judged_read link pdu s items served.settled.grants served.low served.most served.fits can.0.0 can.0.1 can.1)
      (λ reply. refl) (λ answer. tt) (read_well pdu link s items served.low (omega (arith, served.most, can.1)))

  write_replied : (items : List Item) (octets : List ℕ) → IsServed first b js vs pdu s (writes items octets)
      → IsAskable pdu (writes items octets) → RepliesOnce first b js vs pdu (writes items octets) s
  write_replied items octets served can =
      asking_replied served (plainly link s (own_write items octets))
      (write_is_asked s items octets link pdu served.settled.grants served.low served.most served.fits can.0.0 can.0.1
      can.1) (λ reply. refl) (λ answer. tt)
      (write_well pdu link s items octets served.low can.0.1 can.1 (omega (arith, served.most, served.fits)))

  -- user data that asks the plant
  user_replied : (subject : Subject) (octets : List ℕ) (timed : Bool) (request : ℕ → Request)
      → IsServed first b js vs pdu s (asks subject octets)
      → judge link (question_octets s (asks subject octets))
      ≡ asks_user link pdu s (group_of subject) (subfunction_of subject) timed request
      → IsLeftOpen link pdu (asks subject octets)
      → ((moment : ℕ) → AsksFor subject octets moment (request moment))
      → ((moment : ℕ) (state : State) (right : Bool) → IsStateFor (request moment) state
      → IsFit subject (plant.answer state right (request moment)))
      → RepliesOnce first b js vs pdu (asks subject octets) s
  user_replied subject octets timed request served judged open_to told fits =
      asking_replied served (by_user link pdu s (group_of subject) (subfunction_of subject) timed request) judged
      (λ reply. refl) open_to
      (user_well link pdu s subject octets timed request served.low served.least served.most told
      (λ moment state for. fits moment state link.right for))

  state_replied : IsServed first b js vs pdu s (asks RunState (list_octets 0x0424 0))
      → RepliesOnce first b js vs pdu (asks RunState (list_octets 0x0424 0)) s
  state_replied served =
      let octets = list_octets 0x0424 0 in
      user_replied RunState octets false (λ moment. plain.Szl 0x0424 0) served
      (judged_state octets (is_sent served) refl) (λ answer. tt) (λ moment. refl)
      (λ moment state right for. state_fits state right)

  setting_by : (octets : List ℕ) (value : Option ℕ) → IsServed first b js vs pdu s (asks ClockSetting octets)
      → length octets ≡ 10 → moment_in octets ≡ value → IsSome value
      → RepliesOnce first b js vs pdu (asks ClockSetting octets) s
  setting_by octets None served ten is some = absurd (cc)
  setting_by octets (Some value) served ten is some =
      user_replied ClockSetting octets true (λ moment. plain.ClockSet moment value) served
      (judged_setting value octets (is_sent served) ten is)
      (λ answer. tt) (λ moment. (value, is, refl)) (λ moment state right for. setting_fits moment value state right)

  -- a name of no block is refused
  unnamed_replied : (subject : Subject) (octets : List ℕ) → IsServed first b js vs pdu s (asks subject octets)
      → NamesNone subject octets
      → judge link (question_octets s (asks subject octets))
      ≡ informed link pdu s None → IsLeftOpen link pdu (asks subject octets)
      → RepliesOnce first b js vs pdu (asks subject octets) s
  unnamed_replied subject octets served none judged open_to =
      refused_replied served 0x8404 (_, judged, refl) (omega arith) open_to (is_told (inr (inr (none, refl, refl))))

  -- blocks of a kind
  kind_replied : (kind : ℕ) (there : Bool) → IsServed first b js vs pdu s (asks BlocksOfKind (kind_octets kind))
      → is_some (head_code kind) ≡ there → RepliesOnce first b js vs pdu (asks BlocksOfKind (kind_octets kind)) s
  kind_replied kind true served is =
      user_replied BlocksOfKind (kind_octets kind) false (λ moment. plain.ListOf kind) served
      (judged_kind kind true (is_sent served) is)
      (λ answer. tt) (λ moment. refl) (λ moment state right plant. kind_fits kind state right plant)
  kind_replied kind false served is =
      unnamed_replied BlocksOfKind (kind_octets kind) served is
      (judged_kind kind false (is_sent served) is) (λ answer. tt)

  -- the head of a block
  head_replied : (octets : List ℕ) (name : Option BlockName) → IsServed first b js vs pdu s (asks BlockHead octets)
      → length octets ≡ 8 → named octets 0x41 ≡ name → RepliesOnce first b js vs pdu (asks BlockHead octets) s
  head_replied octets (Some name) served eight is =
      user_replied BlockHead octets false (λ moment. plain.Info name.kind name.number) served
      (judged_head octets (Some name) (is_sent served) eight is) (λ answer. tt) (λ moment. (name, is, refl))
      (λ moment state right plant. head_fits name.kind name.number state right plant)
  head_replied octets None served eight is =
      unnamed_replied BlockHead octets served is (judged_head octets None (is_sent served) eight is) (λ answer. tt)

  -- the head of a data block
  data_replied : (number : ℕ) (name : Option BlockName)
      → IsServed first b js vs pdu s (asks DataHead (block_octets 0x41 number))
      → named (block_octets 0x41 number) 0x41 ≡ name
      → RepliesOnce first b js vs pdu (asks DataHead (block_octets 0x41 number)) s
  data_replied number (Some name) served is =
      let octets = block_octets 0x41 number in
      user_replied DataHead octets false (λ moment. plain.Info name.kind name.number) served
      (judged_data octets (Some name) (is_sent served) refl is)
      (λ answer. tt) (λ moment. (name, is, refl)) (λ moment state right for.
      subst (λ (kind : ℕ). IsFit DataHead (plant.answer state right (plain.Info kind name.number)))
      (names_data number name is) (data_fits name.number state right for))
  data_replied number None served is =
      let octets = block_octets 0x41 number in
      unnamed_replied DataHead octets served is (judged_data octets None (is_sent served) refl is) (λ answer. tt)

  -- user data about a password
  secured_replied : (error : ℕ) (subject : Subject) (octets : List ℕ)
      → IsServed first b js vs pdu s (asks subject octets) → IsSecurity subject
      → goes_on_with subject [] false [] ≡ true
      → IsSecured link s (group_of subject) (subfunction_of subject) error
      (judge link (question_octets s (asks subject octets)))
      → ((answer : Answer) → answer ≡ security_heard (next_octet link.user_sequence) error
      → IsSecuredBy link subject octets answer)
      → RepliesOnce first b js vs pdu (asks subject octets) s
  secured_replied error subject octets served security whole of same =
      let octet = next_octet link.user_sequence in
      let after = secured link of.right in
      let message = user_octets s (told_params subject octet 0 error) no_data in
      let heard = secured_heard (eqb error 0) s octet error subject octets served.low of.small whole refl in
      link_replied served message after of.is served.settled.grants
      (λ answer is. same answer (same_some _ _ (sym is ∙ heard)))
      (secured_good after pdu s octet error subject octets served.low of.small security whole)

  further_replied : (octet : ℕ) (subject : Subject) (so_far : List ℕ)
      → IsServed first b js vs pdu s (asks_further subject octet so_far) → comes_in_pieces subject ≡ true
      → HoldsRest link subject octet so_far
      → RepliesOnce first b js vs pdu (asks_further subject octet so_far) s
  further_replied octet subject so_far served pieces h =
      let q = asks_further subject octet so_far in
      let rest = h.held.rest in
      let g = group_of subject in
      let f = subfunction_of subject in
      let after = record link { sliced = slices_left g f octet pdu rest } in
      let message = slice_octets s g f octet pdu rest in
      let r : IsRest subject so_far rest = record { whole = h.whole; most = h.most; short = inl pieces } in
      link_replied served message after
      (judged_further link pdu s octet subject so_far (is_sent served) pieces h) served.settled.grants (λ answer is. (
        h.held,
        h.is,
        same_some _ _
            (sym is
            ∙ slice_is_heard q subject (Some octet) s octet pdu so_far rest (refl, λ params body. refl)
            (eq-eqb octet octet refl) served.low served.least served.most r),
      ))
      (further_good after pdu s octet subject so_far rest served.low served.least served.most r refl)

  served_replied : (q : Question) → IsOne q → IsServed first b js vs pdu s q → IsAskable pdu q
      → IsReadyFor link q → RepliesOnce first b js vs pdu q s
  served_replied (negotiates n) one served can ready = absurd can
  served_replied (reads items) one served can ready = read_replied items served can
  served_replied (writes items octets) one served can ready = write_replied items octets served can
  served_replied (controls c) one served can ready = control_replied b js vs pdu s c (request_of c) served can refl
  served_replied (asks StatusList octets) one served can ready =
      let id = number_at octets 0 in
      let index = number_at octets 2 in
      user_replied StatusList octets false (λ moment. plain.Szl id index) served
      (judged_list octets (is_sent served) can)
      (λ answer. tt) (λ moment. refl) (λ moment state right for. list_fits id index state right)
  served_replied (asks RunState octets) one served can ready =
      subst (λ xs. RepliesOnce first b js vs pdu (asks RunState xs) s) (sym can)
      (state_replied (subst (λ xs. IsServed first b js vs pdu s (asks RunState xs)) can served))
  served_replied (asks BlockCounts octets) one served can ready =
      user_replied BlockCounts octets false (λ moment. plain.ListAll) served
      (judged_counts octets (is_sent served))
      (λ answer. tt) (λ moment. refl) (λ moment state right for. counts_fit state right)
  served_replied (asks BlocksOfKind octets) one served can ready =
      subst (λ xs. RepliesOnce first b js vs pdu (asks BlocksOfKind xs) s) (sym can.1)
      (kind_replied can.0 (is_some (head_code can.0))
      (subst (λ xs. IsServed first b js vs pdu s (asks BlocksOfKind xs)) can.1 served) refl)
  served_replied (asks BlockHead octets) one served can ready = head_replied octets (named octets 0x41) served can refl
  served_replied (asks DataHead octets) one served can ready =
      subst (λ xs. RepliesOnce first b js vs pdu (asks DataHead xs) s) (sym can.1)
      (data_replied can.0 (named (block_octets 0x41 can.0) 0x41)
      (subst (λ xs. IsServed first b js vs pdu s (asks DataHead xs)) can.1 served) refl)
  served_replied (asks Clock octets) one served can ready =
      user_replied Clock octets true (λ moment. plain.ClockRead moment) served
      (judged_clock octets (is_sent served))
      (λ answer. tt) (λ moment. refl) (λ moment state right for. clock_fits moment state right)
  served_replied (asks ClockSetting octets) one served can ready =
      setting_by octets (moment_in octets) served can.0 refl can.1
  served_replied (asks Password octets) one served can ready =
      secured_replied (set_error link.guard (decoded octets)) Password octets served tt refl
      (judged_password link pdu s octets (is_sent served) can) (λ answer is. is)
  served_replied (asks PasswordClearing octets) one served can ready =
      secured_replied (clear_error link.guard link.right) PasswordClearing octets served tt refl
      (judged_clearing link pdu s octets (is_sent served) can) (λ answer is. is)
  served_replied (asks_further subject octet so_far) one served can ready =
      further_replied octet subject so_far served can ready
  served_replied (starts_upload name) one served can ready =
      start_replied b js vs pdu s name (uploaded_of name) served refl
  served_replied (slices_upload id size so_far) one served can ready =
      slice_replied b js vs pdu s id size so_far served ready
  served_replied (ends_upload id) one served can ready = end_replied b js vs pdu s id served ready
  served_replied (announces image) one served can ready = absurd one
  served_replied (awaits_call image) one served can ready = absurd one
  served_replied (gives image room from call) one served can ready = absurd one
  served_replied (inserts image call) one served can ready = absurd one

-- A question of one message that can be asked has its reply, where the link lives after it.
pub replied : {first : LinkState} (b : List ℕ) (js vs : List Verdict) (unheard : List (List ℕ)) (pdu : ℕ) (q : Question)
    (s : ℕ) → IsOne q → Settled first b js (Some pdu) → s < 65536 → 64 ≤ pdu → pdu ≤ most_pdu
    → length (question_octets s q) ≤ pdu → IsAskable pdu q → IsReadyFor (past first b js).link q → unheard ≡ []
    → (past first (b ++ sent_messages 1024 (messages_of s q)) (js ++ vs)).standing ≡ lives
    → Replies first b js vs unheard pdu q s
replied {first} b js vs unheard pdu q s one settled low least most fits can ready none live =
    once_replies b js vs unheard pdu s q one none
    (served_replied first b js vs pdu s q one
    (record {
      settled = settled;
      numbered = one_numbered q one;
      low = low;
      least = least;
      most = most;
      fits = fits;
      live = ap (λ sent. (past first (b ++ sent) (js ++ vs)).standing) (alone_sent s q one) ∙ live;
    })
    can ready)
