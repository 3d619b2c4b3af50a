-- How a connect goes on a link that begins anew.
use Rattle.std.proofs.Common.{◌≡◌, ℕ, ◌+◌, ◌<◌, ◌≤◌, true, List, [], ◌∷◌, ◌++◌, length, None, Some, refl, ap, sym, ◌∙◌, subst, arith, length-append, append-nil}
use Rattle.std.specs.Prelude.{slice_get}
use Rattle.s7_tpkt.specs.Packets.{packet_of}
use Rattle.s7_cotp.specs.Told.{ConnectionTold}
use Rattle.s7_cotp.specs.Spelling.{IsWritable, tsap_octets, spelling_of_confirm}
use Rattle.s7_cotp.proofs.SpellLemmas.{confirm_again}
use Rattle.s7_wire.specs.Bounds.{size_of_code}
use Rattle.s7_wire.specs.Reading.{limit_by}
use Rattle.s7_wire.specs.Sent.{sent_message}
use Rattle.s7_header.specs.declared.negotiation.Negotiation.{Negotiation}
use Rattle.s7_header.specs.Negotiation.{negotiation_spelling}
use Rattle.s7_session.specs.Judgement.{answer_octets}
use Rattle.s7_dialogue.specs.declared.config.Config.{Config}
use Rattle.s7_dialogue.specs.declared.job.Job.TheVariants as job
use Rattle.s7_dialogue.specs.declared.grant.Grant.{Grant}
use Rattle.s7_dialogue.specs.Question.{negotiates, question_octets}
use Rattle.s7_dialogue.specs.Answer.{grants}
use Rattle.s7_dialogue.specs.Flight.{Row, answers_of, open_count, filled}
use Rattle.s7_dialogue.specs.Dialogue.{Plan, connect_request, asked_by, taken_grant, by_grant, negotiating, connecting_plan, plan_of}
use Rattle.s7_dialogue.specs.Course.{Origin, Course, for_answers, for_nothing, conduct_of, asked_on, asking}
use Rattle.s7_dialogue.specs.Course.{begins_anew, sequence_at, size_where, course, limit_in}
use Rattle.s7_dialogue.proofs.FlightLemmas.{with_answer}
use Rattle.s7_dialogue.proofs.PacketLemmas.{confirm_read}
use Rattle.s7_rig.specs.Heard.{connected_end}
use Rattle.s7_rig.proofs.Awaiting.{telegrams_of, AreAsked, BeginsConnecting, negotiation_row, AsksNegotiation, EndsBy}
use Rattle.s7_rig.proofs.BeginLemmas.{clear_at_first, first_course}
use Rattle.s7_rig.proofs.AnsweredLemmas.{length-grant, negotiation_is_heard}
use Rattle.s7_rig.proofs.TelegramLemmas.{awaits_none, filled_behind, AsksAll, asks_all}
use Rattle.s7_rig.proofs.HeardLemmas.{front_heard, packet_heard, packet_whole, HearsOn, heard_answer}

-- the plan of a connect on a client that isn't connected
connects_by : (origin : Origin) → origin.granted ≡ None → origin.job ≡ job.Connect
    → plan_of origin.job origin.config origin.granted ≡ connecting_plan origin.config
connects_by origin fresh connect =
    ap (λ g. plan_of origin.job origin.config g) fresh ∙ ap (λ j. plan_of j origin.config None) connect

anew : (origin : Origin) → origin.granted ≡ None → origin.job ≡ job.Connect
    → begins_anew origin.granted origin.job ≡ true
anew origin fresh connect = ap (λ g. begins_anew g origin.job) fresh ∙ ap (begins_anew None) connect

-- A connect asks for a link first.
pub begins_connecting : (origin : Origin) → origin.granted ≡ None → origin.job ≡ job.Connect → BeginsConnecting origin
begins_connecting origin fresh connect =
    let is = first_course origin connect_request (ap (λ (p : Plan). p.first) (connects_by origin fresh connect)) in
    record {
      rest = clear_at_first origin;
      awaits = ap (λ (k : Course). k.awaits) is;
      rows = ap (λ (k : Course). k.rows) is;
      unfinished = ap (λ (k : Course). k.unfinished) is;
      sequence = ap (λ (k : Course). k.sequence) is
          ∙ ap (λ b. sequence_at b origin.sequence) (anew origin fresh connect);
      out = ap (λ (k : Course). k.out) is;
    }

-- ---- the confirm

tsap_short : (code : ℕ) (t : List ℕ) → length (tsap_octets code t) ≤ 2 + length t
tsap_short code [] = omega arith
tsap_short code (x ∷ t) = omega arith

confirm_short : (c : ConnectionTold) → IsWritable c → length (spelling_of_confirm c) ≤ 46
confirm_short c w =
    omega (
      arith,
      length-append (tsap_octets 0xC1 c.calling) (tsap_octets 0xC2 c.called),
      tsap_short 0xC1 c.calling,
      tsap_short 0xC2 c.called,
      w.calling,
      w.called,
    )

confirm_fits : (origin : Origin) (c : ConnectionTold) → BeginsConnecting origin → IsWritable c
    → length (spelling_of_confirm c) + 4 ≤ limit_in (course origin [])
confirm_fits origin c h w =
    omega (arith, confirm_short c w, ap (λ a. limit_by (size_where a (course origin []).size)) h.awaits)

-- a strict front of a confirm changes nothing
pub confirm_front : (origin : Origin) (c : ConnectionTold) (u v : List ℕ) → BeginsConnecting origin → IsWritable c
    → u ++ v ≡ packet_of (spelling_of_confirm c) → 0 < length v → course origin u ≡ course origin []
confirm_front origin c u v h w e some =
    front_heard origin [] h.rest (spelling_of_confirm c) u v (omega arith) (confirm_fits origin c h w) e some

abbrev sized : Course → ℕ → Course
sized k size = record k { size = size }

confirmed_course : (origin : Origin) (c : ConnectionTold) → BeginsConnecting origin → IsWritable c → c.size_code ≡ 0x0A
    → course origin (packet_of (spelling_of_confirm c)) ≡ asking (conduct_of origin) (sized (course origin []) 1024)
confirmed_course origin c h w size =
    let body : List ℕ = spelling_of_confirm c in
    packet_heard origin [] h.rest body (omega arith) (confirm_fits origin c h w)
    ∙ (confirm_read origin (course origin []) body c h.awaits (confirm_again c w)
    ∙ ap (λ code. asking (conduct_of origin) (sized (course origin []) (size_of_code code))) size)

-- ---- the negotiation

-- a course that has asked nothing, on a link of 1,024 octets
abbrev blank_of : Course → Course
blank_of k = record k { rows = []; size = 1024; sequence = 0 }

-- that has asked the negotiation alone
abbrev negotiating_in : Config → Course → Course
negotiating_in config k = record k {
  rows = record { question = negotiates (asked_by config); number = 1; answer = None } ∷ [];
  size = 1024;
  sequence = 1;
  out = k.out ++ sent_message 1024 (question_octets 1 (negotiates (asked_by config)));
  awaits = for_answers;
}

negotiates_alone : (config : Config) (k : Course) → asking (negotiating config) (blank_of k) ≡ negotiating_in config k
unfolding asked_on open_count
negotiates_alone config k =
    let message = question_octets 1 (negotiates (asked_by config)) in
    ap (λ (sent : List ℕ). record (negotiating_in config k) { out = k.out ++ sent })
    (append-nil (sent_message 1024 message))

same_blank : (k : Course) → k.rows ≡ [] → k.sequence ≡ 0 → sized k 1024 ≡ blank_of k
same_blank k none first =
    ap (λ rows. record k { rows = rows; size = 1024 }) none
    ∙ ap (λ n. record k { rows = []; size = 1024; sequence = n }) first

-- The confirm of 1,024 octets is taken, and the negotiation goes out.
pub confirm_heard : (origin : Origin) (c : ConnectionTold) → origin.granted ≡ None → origin.job ≡ job.Connect
    → IsWritable c → c.size_code ≡ 0x0A → AsksNegotiation origin (packet_of (spelling_of_confirm c))
confirm_heard origin c fresh connect w size =
    let h = begins_connecting origin fresh connect in
    let before : Course = course origin [] in
    let conduct = conduct_of origin in
    let confirmed = confirmed_course origin c h w size in
    let asks : AsksAll conduct (sized before 1024) (course origin (packet_of (spelling_of_confirm c))) =
    subst (AsksAll conduct (sized before 1024)) (sym confirmed)
    (asks_all conduct (sized before 1024) refl (omega (arith, h.sequence))) in
    let is : course origin (packet_of (spelling_of_confirm c)) ≡ negotiating_in origin.config before =
    confirmed
    ∙ (ap (λ (p : Plan). asking p.conduct (sized before 1024)) (connects_by origin fresh connect)
    ∙ (ap (asking (negotiating origin.config)) (same_blank before h.rows h.sequence)
    ∙ negotiates_alone origin.config before)) in
    record {
      awaiting = record {
        rest = packet_whole origin [] h.rest (spelling_of_confirm c) (omega arith) (confirm_fits origin c h w);
        unfinished = asks.unfinished ∙ h.unfinished;
        size = asks.size;
        sequence = asks.sequence;
        none_more = asks.none_more;
        awaits = asks.awaits;
      };
      awaits = ap (λ (k : Course). k.awaits) is;
      rows = ap (λ (k : Course). k.rows) is;
      out = ap (λ (k : Course). k.out) is
          ∙ ap (λ x. x ++ sent_message 1024 (question_octets 1 (negotiates (asked_by origin.config)))) h.out;
    }

-- ---- the grant

-- nothing is asked behind the negotiation
none_behind : (config : Config) (new : List Row) → AreAsked (negotiating config) 1 new → new ≡ []
none_behind config [] asked = refl
none_behind config (row ∷ new) asked =
    let no_more =
    subst (λ n. slice_get (negotiates (asked_by config) ∷ []) n ≡ Some row.question) asked.0.long asked.0.asks in
    absurd (cc)

over_by : (config : Config) (n : Negotiation) (granted : Grant) → taken_grant config n ≡ Some granted
    → (negotiating config).ended (Some (grants n) ∷ []) ≡ connected_end granted
over_by config n granted taken = ap by_grant taken

-- A grant that is taken ends the connect.
pub grant_heard : (origin : Origin) (b : List ℕ) (n : Negotiation) (granted : Grant) → origin.granted ≡ None
    → origin.job ≡ job.Connect → AsksNegotiation origin b → taken_grant origin.config n ≡ Some granted
    → EndsBy origin b (sent_message 1024 (answer_octets 1 (negotiation_spelling n) [])) (connected_end granted)
unfolding open_count
grant_heard origin b n granted fresh connect h taken =
    let message = answer_octets 1 (negotiation_spelling n) [] in
    let packet = sent_message 1024 message in
    let row : Row = negotiation_row origin in
    let answered : List Row = with_answer row (grants n) ∷ [] in
    let is : filled (course origin b).rows message ≡ Some answered =
    ap (λ rows. filled rows message) h.rows
    ∙ filled_behind [] row [] message (grants n) refl
    (negotiation_is_heard (asked_by origin.config) n 1 (omega arith)) in
    let hears : HearsOn origin b packet answered =
    heard_answer origin b message answered (record { awaiting = h.awaiting; awaits = h.awaits })
    (omega (arith, length-grant 1 n)) (omega (arith, length-grant 1 n)) is in
    let before : Course = record (course origin b) { rows = answered } in
    let asks : AsksAll (negotiating origin.config) before (course origin (b ++ packet)) =
    subst (λ c. AsksAll c before (course origin (b ++ packet)))
    (ap (λ (p : Plan). p.conduct) (connects_by origin fresh connect)) hears.asks in
    let none : asks.new ≡ [] = none_behind origin.config asks.new asks.asked in
    let rows : (course origin (b ++ packet)).rows ≡ answered = asks.rows ∙ ap (λ new. answered ++ new) none in
    record {
      awaits = asks.awaits
          ∙ (awaits_none (negotiating origin.config) (course origin (b ++ packet)).rows (ap open_count rows)
          ∙ (ap (λ rows. for_nothing ((negotiating origin.config).ended (answers_of rows)) []) rows
          ∙ ap (λ end. for_nothing end []) (over_by origin.config n granted taken)));
      out = asks.out ∙ (ap (λ new. (course origin b).out ++ telegrams_of new) none ∙ append-nil (course origin b).out);
      size = asks.size;
      sequence = asks.sequence;
    }
