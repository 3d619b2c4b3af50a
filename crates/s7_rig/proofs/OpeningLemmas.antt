-- The first connect over one link, once its client is done with it.
use Rattle.std.proofs.Common.{◌≡◌, inl, inr, ℕ, ◌<◌, cond, min, max, None, Some, List, [], ◌++◌, refl, ap, sym, ◌∙◌, subst, arith, append_assoc, append-nil}
use Rattle.std.specs.Prelude.{Option, nat_lt, ◌||◌}
use Rattle.std.proofs.lemmas.Bool.{le-ltb}
use Rattle.std.proofs.lemmas.List.{append_cancel_left}
use Rattle.s7_tpkt.specs.Packets.{packet_of}
use Rattle.s7_cotp.specs.Told.{ConnectionTold}
use Rattle.s7_cotp.specs.Spelling.{IsWritable, spelling_of_confirm}
use Rattle.s7_area.specs.declared.guard.Guard.{Guard}
use Rattle.s7_header.specs.declared.negotiation.Negotiation.{Negotiation}
use Rattle.s7_header.specs.Negotiation.{negotiation_spelling, jobs_granted, most_pdu}
use Rattle.s7_wire.specs.Sent.{sent_message}
use Rattle.s7_session.specs.Judgement.{answer_octets}
use Rattle.s7_session.specs.Verdict.{Verdict}
use Rattle.s7_session.specs.Events.{confirmed}
use Rattle.s7_session.specs.LinkState.{LinkState, first_link}
use Rattle.s7_session.specs.Owed.{Past, past, owed, entered}
use Rattle.s7_session.proofs.PastLemmas.{with_more, past_nothing, past_grows}
use Rattle.s7_dialogue.specs.declared.config.Config.{Config}
use Rattle.s7_dialogue.specs.declared.grant.Grant.{Grant}
use Rattle.s7_dialogue.specs.Question.{negotiates, question_octets}
use Rattle.s7_dialogue.specs.Dialogue.{End, asked_by, taken_grant}
use Rattle.s7_client.specs.Standing.{AwaitsOctets}
use Rattle.s7_dialogue.specs.Course.{Origin, Course, Awaits, for_nothing, request_of, connect_octets, course}
use Rattle.s7_client.proofs.FrontLemmas.{IsSplit, split_front}
use Rattle.s7_rig.specs.Settled.{Settled, Serves}
use Rattle.s7_rig.specs.Heard.{connected_end}
use Rattle.s7_rig.specs.Dialogues.{IsConnectOver, IsConnectSettled}
use Rattle.s7_rig.proofs.Awaiting.{BeginsConnecting, AsksNegotiation, EndsBy}
use Rattle.s7_rig.proofs.FrontLemmas.{served_front}
use Rattle.s7_rig.proofs.OpenedLemmas.{opened, opening_front}
use Rattle.s7_rig.proofs.JudgedLemmas.{is_granted}
use Rattle.s7_rig.proofs.QuestionLemmas.{served_negotiation}
use Rattle.s7_rig.proofs.HeardLemmas.{AwaitsAnswers, heard_front}
use Rattle.s7_rig.proofs.ConnectLemmas.{begins_connecting, confirm_front, confirm_heard, grant_heard}
use Rattle.s7_rig.proofs.GrowthLemmas.{course_grows}
use Rattle.s7_rig.proofs.PastFacts.{past_with}
use Rattle.s7_rig.proofs.ListFacts.{none_before, none_behind, none_of}

-- ---- what goes over the link

-- the confirm of the client's connect request
abbrev confirm_of : Config → ConnectionTold
confirm_of config = confirmed (request_of config)

abbrev confirm_octets : Config → List ℕ
confirm_octets config = packet_of (spelling_of_confirm (confirm_of config))

-- the negotiation, its message and its octets
abbrev negotiation_of : Config → List ℕ
negotiation_of config = question_octets 1 (negotiates (asked_by config))

abbrev negotiation_octets : Config → List ℕ
negotiation_octets config = sent_message 1024 (negotiation_of config)

-- the grant that answers it
abbrev granted_of : Config → Negotiation
granted_of config = record { calling = jobs_granted config.jobs; called = jobs_granted config.jobs; pdu = min config.pdu most_pdu }

abbrev grant_of : Config → List ℕ
grant_of config = answer_octets 1 (negotiation_spelling (granted_of config)) []

abbrev grant_octets : Config → List ℕ
grant_octets config = sent_message 1024 (grant_of config)

-- the grant that the client takes of it
abbrev taken_of : Config → Grant
taken_of config =
    record { pdu = (granted_of config).pdu; jobs = max 1 (min (min (granted_of config).calling (granted_of config).called) config.jobs) }

-- all octets that the client sends, and those that it hears
abbrev opening_sent : Config → List ℕ
opening_sent config = connect_octets config ++ negotiation_octets config

abbrev opening_heard : Config → List ℕ
opening_heard config = confirm_octets config ++ grant_octets config

-- ---- fronts

not_over : (end : End) (carried : List ℕ) (awaits : Awaits) → AwaitsOctets awaits → awaits ≡ for_nothing end carried → ⊥
not_over end carried awaits octets over = subst AwaitsOctets over octets

same_end : (end end' : End) (carried carried' : List ℕ) → for_nothing end carried ≡ for_nothing end' carried' → end ≡ end'
same_end end end' carried carried' same = cc

confirm_is_writable : (config : Config) → IsWritable (confirm_of config)
confirm_is_writable config = record { least_size = omega arith; most_size = omega arith; calling = omega arith; called = omega arith }

-- ---- what is owed and what was sent, from a place on

-- what was owed at a place comes first
owed_first : {first : LinkState} (b u heard behind out : List ℕ) (verdicts : List Verdict) (held : Option ℕ) → Settled first b [] held → owed first b [] ≡ out
    → owed first (b ++ u) verdicts ≡ heard ++ behind → (rest : List ℕ) × (out ++ rest ≡ heard ++ behind)
owed_first {first} b u heard behind out verdicts held settled is owes =
    let grown = past_grows first b u verdicts in
    let same : owed first b verdicts ≡ out = ap (λ (p : Past). p.owed) (past_with first b [] verdicts settled.lives) ∙ is in
    (grown.tail, ap (λ x. x ++ grown.tail) (sym same) ∙ (sym grown.owed ∙ owes))

-- what might be sent at a place was sent first
sent_first : (origin : Origin) (b more heard sent out : List ℕ) → (course origin b).out ≡ out → heard ≡ b ++ more → sent ≡ (course origin heard).out
    → (rest : List ℕ) × (out ++ rest ≡ sent)
sent_first origin b more heard sent out is heard_is sent_is =
    let grown = course_grows origin b more in
    (grown.0, ap (λ x. x ++ grown.0) (sym is) ∙ (sym grown.1 ∙ (ap (λ x. (course origin x).out) (sym heard_is) ∙ sym sent_is)))

-- ---- the steps

module _ (guard : Option Guard) (origin : Origin) (heard sent : List ℕ) (end : End) (carried used : List ℕ) (verdicts : List Verdict) (behind : List ℕ)
    (over : IsConnectOver guard origin heard sent end carried used verdicts behind) where
  abbrev first : LinkState
  first = first_link guard

  begins : BeginsConnecting origin
  begins = begins_connecting origin over.unconnected over.connects

  -- the octets that leave others awaited aren't all that were used
  not_all_heard : (b : List ℕ) → course origin heard ≡ course origin b → AwaitsOctets (course origin b).awaits → ⊥
  not_all_heard b same octets = not_over end carried (course origin b).awaits octets (ap (λ (c : Course). c.awaits) (sym same) ∙ over.over.over)

  request_cases : (rest : List ℕ) → IsSplit (connect_octets origin.config) rest used over.unused → (u : List ℕ) × (used ≡ connect_octets origin.config ++ u)
  request_cases rest (inl y) =
      let waits = opening_front first origin.config used y.0 verdicts (sym y.1) y.2 in
      let silent = none_before heard behind (sym over.owed_is ∙ (waits.owed ∙ ap (λ (p : Past). p.owed) (past_nothing first []))) in
      absurd (not_all_heard [] (ap (course origin) silent) (subst AwaitsOctets (sym begins.awaits) tt))
  request_cases rest (inr y) = (y.0, y.1)

  -- the session has used the connect request
  request_used : (u : List ℕ) × (used ≡ connect_octets origin.config ++ u)
  request_used =
      let front = sent_first origin [] heard heard sent (connect_octets origin.config) begins.out refl over.over.sent in
      request_cases front.0 (split_front (connect_octets origin.config) front.0 used over.unused (front.1 ∙ over.taken))

  confirm_cases : (rest : List ℕ) → IsSplit (confirm_octets origin.config) rest heard behind → (more : List ℕ) × (heard ≡ confirm_octets origin.config ++ more)
  confirm_cases rest (inl y) =
      absurd (not_all_heard [] (confirm_front origin (confirm_of origin.config) heard y.0 begins (confirm_is_writable origin.config) (sym y.1) y.2) (subst AwaitsOctets (sym begins.awaits) tt))
  confirm_cases rest (inr y) = (y.0, y.1)

  -- the client has used the confirm
  confirm_used : (more : List ℕ) × (heard ≡ confirm_octets origin.config ++ more)
  confirm_used =
      let opens = opened guard origin.config in
      let request = request_used in
      let front = owed_first (connect_octets origin.config) request.0 heard behind (confirm_octets origin.config) verdicts None opens.settled opens.owed
      (ap (λ b. owed first b verdicts) (sym request.1) ∙ over.owed_is) in
      confirm_cases front.0 (split_front (confirm_octets origin.config) front.0 heard behind front.1)

  negotiation_awaited : AsksNegotiation origin (confirm_octets origin.config)
  negotiation_awaited = confirm_heard origin (confirm_of origin.config) over.unconnected over.connects (confirm_is_writable origin.config) refl

  -- behind the confirm octets were used
  answer_begun : (more : List ℕ) → heard ≡ confirm_octets origin.config ++ more → more ≡ [] → ⊥
  answer_begun more is none =
      let confirm = confirm_octets origin.config in
      not_all_heard confirm (ap (course origin) (is ∙ (ap (λ x. confirm ++ x) none ∙ append-nil confirm)))
      (subst AwaitsOctets (sym negotiation_awaited.awaits) tt)

  opening_out : (course origin (confirm_octets origin.config)).out ≡ opening_sent origin.config
  opening_out = negotiation_awaited.out

  negotiation_cases : (rest : List ℕ) → IsSplit (opening_sent origin.config) rest used over.unused → (u : List ℕ) × (used ≡ opening_sent origin.config ++ u)
  negotiation_cases rest (inl y) =
      let opens = opened guard origin.config in
      let request = request_used in
      let confirm = confirm_used in
      let front : request.0 ++ y.0 ≡ negotiation_octets origin.config =
      append_cancel_left (connect_octets origin.config) (request.0 ++ y.0) (negotiation_octets origin.config)
      (sym (append_assoc (connect_octets origin.config) request.0 y.0) ∙ (ap (λ x. x ++ y.0) (sym request.1) ∙ sym y.1)) in
      let waits = served_front opens.settled request.0 y.0 (negotiation_of origin.config) verdicts
      (omega arith) front y.2 in
      let owes : confirm_octets origin.config ≡ confirm_octets origin.config ++ (confirm.0 ++ behind) =
      sym opens.owed ∙ (sym waits.owed ∙ (ap (λ b. owed first b verdicts) (sym request.1) ∙ (over.owed_is ∙ (ap (λ x. x ++ behind) confirm.1 ∙ append_assoc (confirm_octets origin.config) confirm.0 behind)))) in
      absurd (answer_begun confirm.0 confirm.1 (none_before confirm.0 behind (none_behind (confirm_octets origin.config) (confirm.0 ++ behind) owes)))
  negotiation_cases rest (inr y) = (y.0, y.1)

  -- the session has used the negotiation
  negotiation_used : (u : List ℕ) × (used ≡ opening_sent origin.config ++ u)
  negotiation_used =
      let confirm = confirm_used in
      let front = sent_first origin (confirm_octets origin.config) confirm.0 heard sent (opening_sent origin.config) opening_out confirm.1 over.over.sent in
      negotiation_cases front.0 (split_front (opening_sent origin.config) front.0 used over.unused (front.1 ∙ over.taken))

  granted_is : (granted_of origin.config).pdu ≡ origin.config.pdu
  granted_is = omega (arith, over.most)

  -- the session grants what was asked for
  negotiation_served : Serves first (connect_octets origin.config) [] (negotiation_octets origin.config) [] (Some (granted_of origin.config).pdu) (grant_octets origin.config) []
  negotiation_served =
      served_negotiation (connect_octets origin.config) [] None 1 (asked_by origin.config) (granted_of origin.config) (opened guard origin.config).settled (omega arith) (omega arith)
      (is_granted (asked_by origin.config) over.least)

  opening_owed : owed first (opening_sent origin.config) [] ≡ opening_heard origin.config
  opening_owed = negotiation_served.owed ∙ ap (λ x. x ++ grant_octets origin.config) (opened guard origin.config).owed

  grant_cases : (rest : List ℕ) → IsSplit (opening_heard origin.config) rest heard behind → (more : List ℕ) × (heard ≡ opening_heard origin.config ++ more)
  grant_cases rest (inl y) =
      let confirm = confirm_octets origin.config in
      let begun = confirm_used in
      let front : begun.0 ++ y.0 ≡ grant_octets origin.config =
      append_cancel_left confirm (begun.0 ++ y.0) (grant_octets origin.config) (sym (append_assoc confirm begun.0 y.0) ∙ (ap (λ x. x ++ y.0) (sym begun.1) ∙ sym y.1)) in
      let awaits : AwaitsAnswers origin confirm =
      record { awaiting = negotiation_awaited.awaiting; awaits = negotiation_awaited.awaits } in
      let still = heard_front awaits (grant_of origin.config) begun.0 y.0 (omega arith) front y.2 in
      absurd
      (not_over end carried (course origin heard).awaits
      (subst AwaitsOctets (sym (ap (λ x. (course origin x).awaits) begun.1 ∙ still)) tt) over.over.over)
  grant_cases rest (inr y) = (y.0, y.1)

  -- the client has used the grant
  grant_used : (more : List ℕ) × (heard ≡ opening_heard origin.config ++ more)
  grant_used =
      let negotiation = negotiation_used in
      let front = owed_first (opening_sent origin.config) negotiation.0 heard behind (opening_heard origin.config) verdicts (Some (granted_of origin.config).pdu) negotiation_served.settled opening_owed
      (ap (λ b. owed first b verdicts) (sym negotiation.1) ∙ over.owed_is) in
      grant_cases front.0 (split_front (opening_heard origin.config) front.0 heard behind front.1)

  -- the grant that is taken
  taken_is : taken_grant origin.config (granted_of origin.config) ≡ Some (taken_of origin.config)
  taken_is =
      let n = granted_of origin.config in
      ap (λ t. cond (t || nat_lt origin.config.pdu n.pdu) None (Some (taken_of origin.config))) (le-ltb n.pdu 64 (omega (arith, granted_is, over.least)))
      ∙ ap (λ t. cond t None (Some (taken_of origin.config))) (le-ltb origin.config.pdu n.pdu (omega (arith, granted_is)))

  grant_ends : EndsBy origin (confirm_octets origin.config) (grant_octets origin.config) (connected_end (taken_of origin.config))
  grant_ends =
      grant_heard origin (confirm_octets origin.config) (granted_of origin.config) (taken_of origin.config)
      over.unconnected over.connects negotiation_awaited taken_is

  -- nothing behind it is used
  all_heard : heard ≡ opening_heard origin.config
  all_heard =
      let grant = grant_used in
      let none = none_of grant.0 (λ some. subst AwaitsOctets grant_ends.awaits (over.over.all_awaited (opening_heard origin.config) grant.0 grant.1 some)) in
      grant.1 ∙ (ap (λ x. opening_heard origin.config ++ x) none ∙ append-nil (opening_heard origin.config))

  all_sent : sent ≡ opening_sent origin.config
  all_sent = over.over.sent ∙ (ap (λ b. (course origin b).out) all_heard ∙ (grant_ends.out ∙ opening_out))

  all_used : used ≡ opening_sent origin.config
  all_used =
      let all = opening_sent origin.config in
      let negotiation = negotiation_used in
      let whole : all ≡ all ++ (negotiation.0 ++ over.unused) =
      sym all_sent ∙ (over.taken ∙ (ap (λ x. x ++ over.unused) negotiation.1 ∙ append_assoc all negotiation.0 over.unused)) in
      let none = none_before negotiation.0 over.unused (none_behind all (negotiation.0 ++ over.unused) whole) in
      negotiation.1 ∙ (ap (λ x. all ++ x) none ∙ append-nil all)

  verdicts_wait : past first (opening_sent origin.config) verdicts ≡ with_more (past first (opening_sent origin.config) []) verdicts
  verdicts_wait = past_with first (opening_sent origin.config) [] verdicts negotiation_served.settled.lives

  no_verdicts : verdicts ≡ []
  no_verdicts =
      sym (ap (λ x. x ++ verdicts) negotiation_served.settled.met)
      ∙ (ap (λ (p : Past). p.verdicts) (sym verdicts_wait) ∙ (ap (λ b. (past first b verdicts).verdicts) (sym all_used) ∙ over.met))

  nothing_behind : behind ≡ []
  nothing_behind =
      let all = opening_heard origin.config in
      none_behind all behind
      (sym opening_owed ∙ (ap (λ (p : Past). p.owed) (sym verdicts_wait) ∙ (ap (λ b. owed first b verdicts) (sym all_used) ∙ (over.owed_is ∙ ap (λ x. x ++ behind) all_heard))))

  -- the client has the grant that was taken
  end_is : end ≡ connected_end (taken_of origin.config)
  end_is =
      sym
      (same_end (connected_end (taken_of origin.config)) end [] carried
      (sym grant_ends.awaits ∙ (ap (λ b. (course origin b).awaits) (sym all_heard) ∙ over.over.over)))

  settles : IsConnectSettled guard origin heard sent end used verdicts behind
  settles =
      let as_sent = sym all_sent in
      let settled = negotiation_served.settled in
      let pdu = (granted_of origin.config).pdu in
      record {
        grant = taken_of origin.config;
        is = end_is;
        all_used = all_used ∙ as_sent;
        nothing_behind = nothing_behind;
        no_verdicts = no_verdicts;
        granted = granted_is;
        settled = subst (λ b. Settled first b verdicts (Some pdu)) as_sent
            (subst (λ js. Settled first (opening_sent origin.config) js (Some pdu)) (sym no_verdicts) settled);
        owed_is = ap (λ b. owed first b verdicts) all_sent ∙ (ap (owed first (opening_sent origin.config)) no_verdicts ∙ (opening_owed ∙ sym all_heard));
        entered_is = ap (λ b. entered first b verdicts) all_sent ∙ (ap (entered first (opening_sent origin.config)) no_verdicts ∙ (negotiation_served.entered ∙ (append-nil (entered first (connect_octets origin.config) []) ∙ (opened guard origin.config).entered)));
        size = ap (λ b. (course origin b).size) all_heard ∙ grant_ends.size;
        sequence = subst (λ b. (course origin b).sequence < 65536) (sym all_heard) grant_ends.sequence;
      }

-- BOTH ENDS stand between two messages, with the PDU that was asked for.
pub connect_is_settled : (guard : Option Guard) (origin : Origin) (heard sent : List ℕ) (end : End) (carried used : List ℕ) (verdicts : List Verdict) (behind : List ℕ)
    → IsConnectOver guard origin heard sent end carried used verdicts behind → IsConnectSettled guard origin heard sent end used verdicts behind
connect_is_settled = settles
