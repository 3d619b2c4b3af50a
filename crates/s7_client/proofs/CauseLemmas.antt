-- What the code of a job tells of its link, and what a connect leaves.
use Rattle.std.proofs.Common.{◌≡◌, ◌≢◌, ◌⊎◌, inl, inr, ℕ, ◌≤◌, Bool, true, false, cond, ltb, Option, Some, None, List, [], ◌∷◌, length, refl, ap, sym, ◌∙◌, subst, arith}
use Rattle.std.specs.Prelude.{◌<◌, ◌||◌, max, min, slice_get}
use Rattle.std.proofs.lemmas.Bool.{ltb-false}
use Rattle.std.proofs.lemmas.List.{length-append}
use Rattle.s7_outer.specs.Shown.{Shown}
use Rattle.s7_outer.specs.Count.{Rose, RoseExactly}
use Rattle.s7_wire.specs.Bounds.{size_of_code}
use Rattle.s7_header.specs.declared.negotiation.Negotiation.{Negotiation}
use Rattle.s7_dialogue.specs.declared.config.Config.{Config}
use Rattle.s7_dialogue.specs.declared.grant.Grant.{Grant}
use Rattle.s7_dialogue.specs.declared.grant.Leaves.TheVariants.{Closed, Connected}
use Rattle.s7_dialogue.specs.declared.job.Job.TheVariants as job
use Rattle.s7_dialogue.specs.declared.job.JobResult.{JobResult}
use Rattle.s7_dialogue.specs.Codes.{link_ended, no_fault, receive_failed, send_failed, timed_out}
use Rattle.s7_dialogue.specs.Question.{Question, negotiates}
use Rattle.s7_dialogue.specs.Answer.{Answer, grants}
use Rattle.s7_dialogue.specs.Flight.{Row, answers_of}
use Rattle.s7_dialogue.specs.Dialogue.{Conduct, End, First, Plan, asked_by, by_grant, connect_request, connecting_plan, disconnect_request, fault_end, negotiated, negotiated_by, negotiating, nothing, number_end, plan_of, taken_grant}
use Rattle.s7_dialogue.specs.Course.{Course, Origin, asked, asking, begins_anew, begun, blank, by_first, conduct_of, course, for_departure, next_question, sequence_at, sequence_behind}
use Rattle.s7_dialogue.proofs.FlightLemmas.{IsEnded, asked_on_keeps, comes_next, filled_is, filled_long, same_some}
use Rattle.s7_client.specs.Causes.{CodesTellOfLinks, IsJoined, is_of_link}
use Rattle.s7_client.specs.Counts.{FailedAsTold, WaitedAsTold}
use Rattle.s7_client.specs.Polling.{closed_after, grant_after}
use Rattle.s7_client.specs.Runs.{Between, IsTired, JobRun, origin_from}
use Rattle.s7_client.specs.Standing.{HasCause}
use Rattle.s7_client.proofs.PlanLemmas.{IsFaulted, course_leaves, course_over, plan_leaves}
use Rattle.s7_client.proofs.CodeLemmas.{departure_other, octets_other}
use Rattle.s7_client.proofs.HeldLemmas.{IsHeld, course_held}

-- ---- the causes of codes that only the link gives

other_than : (code n : ℕ) → is_of_link code ≡ false → is_of_link n ≡ true → code ≡ n → ⊥
other_than code n other is e = let x : false ≡ true = sym other ∙ ap is_of_link e ∙ is in cc

failed_of_link : (code : ℕ) → (code ≡ send_failed) ⊎ (code ≡ receive_failed) → is_of_link code ≡ true
failed_of_link code (inl e) = ap is_of_link e
failed_of_link code (inr e) = ap is_of_link e

failed_not : (code n : ℕ) → n ≢ send_failed → n ≢ receive_failed → code ≡ n
    → (code ≡ send_failed) ⊎ (code ≡ receive_failed) → ⊥
failed_not code n unsent unreceived e (inl is) = unsent (sym e ∙ is)
failed_not code n unsent unreceived e (inr is) = unreceived (sym e ∙ is)

module _ (origin : Origin) (link link' : Shown) (kept : List ℕ) (end : End) (carried b written : List ℕ) where
  abbrev HasCauseNow : Type 0
  HasCauseNow =
      HasCause origin link link' kept end carried b written ⊎ IsTired origin link link' kept end carried b written

  failed_rose : HasCauseNow → (end.code ≡ send_failed) ⊎ (end.code ≡ receive_failed) → Rose link.faults link'.faults
  failed_rose (inl (inl h)) is =
      absurd (other_than end.code end.code (octets_other origin b end carried h.over) (failed_of_link end.code is) refl)
  failed_rose (inl (inr (inl h))) is =
      absurd (other_than end.code end.code (ap (λ (e : End). is_of_link e.code) h.is ∙ departure_other origin b h.awaited)
      (failed_of_link end.code is) refl)
  failed_rose (inl (inr (inr (inl h)))) is =
      absurd (failed_not end.code link_ended (λ e. omega (arith, e)) (λ e. omega (arith, e))
      (ap (λ (e : End). e.code) h.fault.0) is)
  failed_rose (inl (inr (inr (inr (inl h))))) is = h.rose
  failed_rose (inl (inr (inr (inr (inr h))))) is = h.rose
  failed_rose (inr h) is =
      absurd (failed_not end.code timed_out (λ e. omega (arith, e)) (λ e. omega (arith, e))
      (ap (λ (e : End). e.code) h.fault.0) is)

  tired_rose : HasCauseNow → end.code ≡ timed_out → RoseExactly origin.config.polls link.waits link'.waits
  tired_rose (inl (inl h)) is =
      absurd (other_than end.code timed_out (octets_other origin b end carried h.over) refl is)
  tired_rose (inl (inr (inl h))) is =
      absurd (other_than end.code timed_out
      (ap (λ (e : End). is_of_link e.code) h.is ∙ departure_other origin b h.awaited) refl is)
  tired_rose (inl (inr (inr (inl h)))) is =
      let code = ap (λ (e : End). e.code) h.fault.0 in absurd (omega (arith, code, is))
  tired_rose (inl (inr (inr (inr (inl h))))) is =
      let code = ap (λ (e : End). e.code) h.fault.0 in absurd (omega (arith, code, is))
  tired_rose (inl (inr (inr (inr (inr h))))) is =
      let code = ap (λ (e : End). e.code) h.fault.0 in absurd (omega (arith, code, is))
  tired_rose (inr h) is = h.rose

-- ---- what codes tell

failed_once : (code : ℕ) (link link' : Shown) → FailedAsTold code link link' → Rose link.faults link'.faults
    → RoseExactly 1 link.faults link'.faults
failed_once code link link' (inl same) rose = (omega (arith, same, rose), omega (arith, same))
failed_once code link link' (inr h) rose = h.0

failed_never : (code : ℕ) (link link' : Shown) → FailedAsTold code link link' → code ≢ send_failed
    → code ≢ receive_failed → link'.faults ≡ link.faults
failed_never code link link' (inl same) unsent unreceived = same
failed_never code link link' (inr h) unsent unreceived = by h.1
  where
    by : (code ≡ send_failed) ⊎ (code ≡ receive_failed) → link'.faults ≡ link.faults
    by (inl e) = absurd (unsent e)
    by (inr e) = absurd (unreceived e)

waited_less : (polls code : ℕ) (link link' : Shown) → WaitedAsTold polls code link link' → code ≢ timed_out
    → (times : ℕ) × (times < polls) × RoseExactly times link.waits link'.waits
waited_less polls code link link' h patient = by h.2
  where
    by : (h.0 < polls) ⊎ ((h.0 ≡ polls) × (code ≡ timed_out))
        → (times : ℕ) × (times < polls) × RoseExactly times link.waits link'.waits
    by (inl less) = (h.0, less, h.1)
    by (inr both) = absurd (patient both.1)

unended_unless : (code : ℕ) (link link' : Shown) → (link'.has_ended ≡ link.has_ended) ⊎ (code ≡ link_ended)
    → code ≢ link_ended → link'.has_ended ≡ link.has_ended
unended_unless code link link' (inl same) unended = same
unended_unless code link link' (inr is) unended = absurd (unended is)

told_failed : (told code : ℕ) → told ≡ code → (told ≡ send_failed) ⊎ (told ≡ receive_failed)
    → (code ≡ send_failed) ⊎ (code ≡ receive_failed)
told_failed told code e (inl is) = inl (sym e ∙ is)
told_failed told code e (inr is) = inr (sym e ∙ is)

pub codes_tell : CodesTellOfLinks
codes_tell config before asked link link' told after run =
    let origin = origin_from config before asked in
    let code : told.code ≡ run.end.code = run.result.code in
    record {
      failed = λ is. failed_once told.code link link' run.faults
          (failed_rose origin link link' after.unread run.end run.carried run.moves.used run.moves.written run.cause
          (told_failed told.code run.end.code code is));
      sound = failed_never told.code link link' run.faults;
      tired = λ is. tired_rose origin link link' after.unread run.end run.carried run.moves.used run.moves.written
          run.cause (sym code ∙ is);
      patient = waited_less config.polls told.code link link' run.waits;
      unended = unended_unless told.code link link' run.ended;
    }

-- ---- the plan of a connect

connects_by : (origin : Origin) → origin.granted ≡ None → origin.job ≡ job.Connect
    → plan_of origin.job origin.config origin.granted ≡ connecting_plan origin.config
connects_by origin fresh connect =
    ap (λ g. plan_of origin.job origin.config g) fresh ∙ ap (λ j. plan_of j origin.config None) connect

negotiates_by : (origin : Origin) → origin.granted ≡ None → origin.job ≡ job.Connect
    → conduct_of origin ≡ negotiating origin.config
negotiates_by origin fresh connect = ap (λ (p : Plan). p.conduct) (connects_by origin fresh connect)

anew : (origin : Origin) → origin.granted ≡ None → origin.job ≡ job.Connect
    → begins_anew origin.granted origin.job ≡ true
anew origin fresh connect = ap (λ g. begins_anew g origin.job) fresh ∙ ap (begins_anew None) connect

-- ---- its one question

-- at most one question was asked, and the last sequence is the number of those that were asked
abbrev AsksOnce : Course → Type 0
AsksOnce c = (length c.rows ≤ 1) × (c.sequence ≡ length c.rows)

alone : (config : Config) (rows : List Row) (question : Question)
    → slice_get (negotiates (asked_by config) ∷ []) (length (answers_of rows)) ≡ Some question
    → (rows ≡ []) × (question ≡ negotiates (asked_by config))
alone config [] question is = (refl, sym (same_some (negotiates (asked_by config)) question is))
alone config (row ∷ rows) question is = absurd (cc)

asked_once : (config : Config) (c : Course) (question : Question) → next_question (negotiating config) c.rows ≡ Some question
    → AsksOnce c → AsksOnce (asked c question)
asked_once config c question next once =
    let only = alone config c.rows question (comes_next (negotiating config) c.rows question next).is in
    let none : length c.rows ≡ 0 = ap length only.0 in
    let row : Row =
    record { question = question; number = sequence_behind c.sequence question; answer = None } in
    let longer = length-append c.rows (row ∷ []) in
    let first : c.sequence ≡ 0 = once.1 ∙ none in
    let one : sequence_behind c.sequence question ≡ 1 =
    ap (λ n. sequence_behind n question) first ∙ ap (sequence_behind 0) only.1 in
    (omega (arith, longer, none), omega (arith, longer, none, one))

asking_once : (config : Config) (c : Course) → AsksOnce c → AsksOnce (asking (negotiating config) c)
asking_once config c once =
    asked_on_keeps AsksOnce (negotiating config)
    (λ c question next once. asked_once config c question next once) (negotiating config).width c once

held_once : (config : Config) → IsHeld (negotiating config) AsksOnce
held_once config = record {
  faulted = λ c code carried is once. once;
  joined = λ c unfinished once. once;
  confirmed = λ c code once. asking_once config (record c { size = size_of_code code }) once;
  answered = λ c message rows is once.
      let long = filled_long c.rows message rows (filled_is c.rows message rows is) in
      asking_once config (record c { rows = rows }) (omega (arith, long, once.0), once.1 ∙ sym long);
}

begun_by : (origin : Origin) (first : First) → first ≡ connect_request
    → sequence_at (begins_anew origin.granted origin.job) origin.sequence ≡ 0
    → AsksOnce (by_first origin.config (conduct_of origin) (blank origin) first)
begun_by origin nothing is none = absurd (cc)
begun_by origin connect_request is none = (omega arith, none)
begun_by origin disconnect_request is none = absurd (cc)

course_once : (origin : Origin) → origin.granted ≡ None → origin.job ≡ job.Connect → (b : List ℕ)
    → AsksOnce (course origin b)
unfolding begun
course_once origin fresh connect b =
    course_held origin AsksOnce
    (subst (λ conduct. IsHeld conduct AsksOnce) (sym (negotiates_by origin fresh connect)) (held_once origin.config))
    (begun_by origin (plan_of origin.job origin.config origin.granted).first
    (ap (λ (p : Plan). p.first) (connects_by origin fresh connect))
    (ap (λ b. sequence_at b origin.sequence) (anew origin fresh connect))) b

-- ---- its grant

record IsGranted (config : Config) (end : End) : Type 0 where
  grant : Grant
  is : end ≡ number_end no_fault (Connected grant)
  least : 64 ≤ grant.pdu
  most : grant.pdu ≤ config.pdu
  some : 1 ≤ grant.jobs
  few : grant.jobs ≤ max 1 config.jobs

abbrev taken_of : Config → Negotiation → Grant
taken_of config n = record { pdu = n.pdu; jobs = max 1 (min (min n.calling n.called) config.jobs) }

taken_by : (config : Config) (n : Negotiation) (low high : Bool) (grant : Grant) → ltb n.pdu 64 ≡ low
    → ltb config.pdu n.pdu ≡ high
    → cond (low || high) None (Some (taken_of config n)) ≡ Some grant
    → IsGranted config (number_end no_fault (Connected grant))
taken_by config n true high grant low_is high_is is = absurd (cc)
taken_by config n false true grant low_is high_is is = absurd (cc)
taken_by config n false false grant low_is high_is is =
    let same = same_some (taken_of config n) grant is in
    let pdu : n.pdu ≡ grant.pdu = ap (λ (g : Grant). g.pdu) same in
    let jobs : max 1 (min (min n.calling n.called) config.jobs) ≡ grant.jobs = ap (λ (g : Grant). g.jobs) same in
    record {
      grant = grant;
      is = refl;
      least = omega (arith, pdu, ltb-false n.pdu 64 low_is);
      most = omega (arith, pdu, ltb-false config.pdu n.pdu high_is);
      some = omega (arith, jobs);
      few = omega (arith, jobs);
    }

granted_by : (config : Config) (n : Negotiation) (taken : Option Grant) → taken_grant config n ≡ taken
    → (by_grant taken).code ≡ 0 → IsGranted config (by_grant taken)
granted_by config n None is good = absurd (omega (arith, good))
granted_by config n (Some grant) is good =
    taken_by config n (ltb n.pdu 64) (ltb config.pdu n.pdu) grant refl refl is

answer_granted : (config : Config) (answer : Answer) → (negotiated_by config answer).code ≡ 0
    → IsGranted config (negotiated_by config answer)
answer_granted config (grants n) good = granted_by config n (taken_grant config n) refl good
answer_granted config _ good = absurd (omega (arith, good))

rows_granted : (config : Config) (rows : List Row) → (negotiated config (answers_of rows)).code ≡ 0
    → IsGranted config (negotiated config (answers_of rows)) × (1 ≤ length rows)
rows_granted config [] good = absurd (omega (arith, good))
rows_granted config (row ∷ rows) good = (by row.answer good, omega arith)
  where
    by : (answer : Option Answer) → (negotiated config (answer ∷ answers_of rows)).code ≡ 0
        → IsGranted config (negotiated config (answer ∷ answers_of rows))
    by None good = absurd (omega (arith, good))
    by (Some answer) good = answer_granted config answer good

-- ---- an end that isn't a grant closes the client

grant_closes : (taken : Option Grant) → (by_grant taken).code ≢ 0 → (by_grant taken).leaves ≡ Closed
grant_closes None bad = refl
grant_closes (Some grant) bad = absurd (bad refl)

answer_closes : (config : Config) (answer : Answer) → (negotiated_by config answer).code ≢ 0
    → (negotiated_by config answer).leaves ≡ Closed
answer_closes config (grants n) bad = grant_closes (taken_grant config n) bad
answer_closes config _ bad = refl

negotiated_closes : (config : Config) (answers : List (Option Answer)) → (negotiated config answers).code ≢ 0
    → (negotiated config answers).leaves ≡ Closed
negotiated_closes config [] bad = refl
negotiated_closes config (None ∷ answers) bad = refl
negotiated_closes config (Some answer ∷ answers) bad = answer_closes config answer bad

-- ---- the end of a connect

module _ (origin : Origin) (fresh : origin.granted ≡ None) (connect : origin.job ≡ job.Connect) where
  ended_by : (rows : List Row) (end : End) (carried : List ℕ) → IsEnded (conduct_of origin) rows end carried
      → end ≡ negotiated origin.config (answers_of rows)
  ended_by rows end carried h =
      h.is ∙ ap (λ (c : Conduct). c.ended (answers_of rows)) (negotiates_by origin fresh connect)

  never_leaves : (b : List ℕ) → (course origin b).awaits ≡ for_departure → ⊥
  never_leaves b is =
      let leaves = (plan_leaves origin.job origin.config origin.granted (course_leaves origin b is).0).0 in
      let x : job.Connect ≡ job.Disconnect = sym connect ∙ leaves in cc

  octets_granted : (b : List ℕ) (end : End) (carried : List ℕ)
      → IsEnded (conduct_of origin) (course origin b).rows end carried ⊎ IsFaulted end → end.code ≡ 0
      → IsGranted origin.config end × ((course origin b).sequence ≡ 1)
  octets_granted b end carried (inr fault) good =
      absurd (fault.1 (sym (ap (λ (e : End). e.code) fault.2) ∙ good))
  octets_granted b end carried (inl ended) good =
      let rows = (course origin b).rows in
      let is = ended_by rows end carried ended in
      let both = rows_granted origin.config rows (sym (ap (λ (e : End). e.code) is) ∙ good) in
      let once = course_once origin fresh connect b in
      (subst (IsGranted origin.config) (sym is) both.0, omega (arith, both.1, once.0, once.1))

  octets_close : (b : List ℕ) (end : End) (carried : List ℕ)
      → IsEnded (conduct_of origin) (course origin b).rows end carried ⊎ IsFaulted end → end.code ≢ 0
      → end.leaves ≡ Closed
  octets_close b end carried (inr fault) bad = ap (λ (e : End). e.leaves) fault.2
  octets_close b end carried (inl ended) bad =
      let is = ended_by (course origin b).rows end carried ended in
      ap (λ (e : End). e.leaves) is
      ∙ negotiated_closes origin.config (answers_of (course origin b).rows)
      (λ e. bad (ap (λ (x : End). x.code) is ∙ e))

  module _ (link link' : Shown) (kept : List ℕ) (end : End) (carried b written : List ℕ) where
    fault_bad : (code : ℕ) → code ≢ 0 → end ≡ fault_end code → end.code ≡ 0 → ⊥
    fault_bad code bad is good = bad (sym (ap (λ (e : End). e.code) is) ∙ good)

    cause_granted : HasCause origin link link' kept end carried b written ⊎ IsTired origin link link' kept end carried b written
        → end.code ≡ 0 → IsGranted origin.config end × ((course origin b).sequence ≡ 1)
    cause_granted (inl (inl h)) good = octets_granted b end carried (course_over origin b end carried h.over) good
    cause_granted (inl (inr (inl h))) good = absurd (never_leaves b h.awaited)
    cause_granted (inl (inr (inr (inl h)))) good =
        absurd (fault_bad link_ended (λ e. omega (arith, e)) h.fault.0 good)
    cause_granted (inl (inr (inr (inr (inl h))))) good =
        absurd (fault_bad receive_failed (λ e. omega (arith, e)) h.fault.0 good)
    cause_granted (inl (inr (inr (inr (inr h))))) good =
        absurd (fault_bad send_failed (λ e. omega (arith, e)) h.fault.0 good)
    cause_granted (inr h) good = absurd (fault_bad timed_out (λ e. omega (arith, e)) h.fault.0 good)

    cause_closes : HasCause origin link link' kept end carried b written ⊎ IsTired origin link link' kept end carried b written
        → end.code ≢ 0 → end.leaves ≡ Closed
    cause_closes (inl (inl h)) bad = octets_close b end carried (course_over origin b end carried h.over) bad
    cause_closes (inl (inr (inl h))) bad = absurd (never_leaves b h.awaited)
    cause_closes (inl (inr (inr (inl h)))) bad = ap (λ (e : End). e.leaves) h.fault.0
    cause_closes (inl (inr (inr (inr (inl h))))) bad = ap (λ (e : End). e.leaves) h.fault.0
    cause_closes (inl (inr (inr (inr (inr h))))) bad = ap (λ (e : End). e.leaves) h.fault.0
    cause_closes (inr h) bad = ap (λ (e : End). e.leaves) h.fault.0

pub connect_granted : (config : Config) (before : Between) (link link' : Shown) (told : JobResult) (after : Between)
    → before.granted ≡ None → JobRun config before job.Connect link link' told after → told.code ≡ no_fault
    → IsJoined config after
connect_granted config before link link' told after fresh run good =
    let origin = origin_from config before job.Connect in
    let found = cause_granted origin fresh refl link link' after.unread run.end run.carried run.moves.used
    run.moves.written run.cause (sym run.result.code ∙ good) in
    let g = found.0 in
    record {
      grant = g.grant;
      granted = run.granted ∙ ap (λ (e : End). grant_after e.leaves before.granted) g.is;
      least = g.least;
      most = g.most;
      some = g.some;
      few = g.few;
      unclosed = run.closed
          ∙ ap (λ (e : End). closed_after e.leaves
          (cond (begins_anew before.granted job.Connect) false before.is_closed)) g.is;
      sequence = run.sequence ∙ found.1;
    }

pub connect_refused : (config : Config) (before : Between) (link link' : Shown) (told : JobResult) (after : Between)
    → before.granted ≡ None → JobRun config before job.Connect link link' told after → told.code ≢ no_fault
    → after.granted ≡ None
connect_refused config before link link' told after fresh run bad =
    let origin = origin_from config before job.Connect in
    run.granted
    ∙ ap (λ leaves. grant_after leaves before.granted)
    (cause_closes origin fresh refl link link' after.unread run.end run.carried run.moves.used run.moves.written
    run.cause (λ e. bad (run.result.code ∙ e)))
