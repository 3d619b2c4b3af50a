-- A whole job over one link: where both ends are between two messages, and what becomes of the first question that is
-- out.
use Rattle.std.proofs.Common.{◌≡◌, inl, inr, ℕ, ◌<◌, ◌≤◌, Option, Some, List, [], ◌∷◌, ◌++◌, length, ap, ap₂, sym, ◌∙◌, subst, arith, length-append, append_assoc, append-nil}
use Rattle.std.specs.List.{flat_map}
use Rattle.std.proofs.lemmas.List.{append_cancel_left}
use Rattle.std.proofs.lemmas.List.Concat.{flat_map-append}
use Rattle.s7_header.specs.Negotiation.{most_pdu}
use Rattle.s7_plant.specs.declared.request.Ask.{Ask}
use Rattle.s7_plant.specs.Replies.{Said}
use Rattle.s7_wire.specs.Bounds.{message_limit}
use Rattle.s7_wire.specs.Sent.{sent_message, sent_messages}
use Rattle.s7_dialogue.specs.declared.grant.Grant.{Grant}
use Rattle.s7_dialogue.specs.Question.{question_octets}
use Rattle.s7_dialogue.specs.Answer.{Answer}
use Rattle.s7_dialogue.specs.Flight.{Row, open_count}
use Rattle.s7_dialogue.specs.Dialogue.{End, plan_of}
use Rattle.s7_dialogue.specs.Course.{Origin, Awaits, for_answers, for_nothing, conduct_of, course}
use Rattle.s7_client.specs.Standing.{IsByOctets}
use Rattle.s7_dialogue.proofs.FlightLemmas.{row_messages}
use Rattle.s7_client.proofs.FitLemmas.{sent_short}
use Rattle.s7_session.specs.LinkState.{LinkState}
use Rattle.s7_session.specs.Telegrams.{entered_of}
use Rattle.s7_session.specs.Verdict.{Verdict}
use Rattle.s7_session.specs.Owed.{Past, past, owed, entered}
use Rattle.s7_session.proofs.PastLemmas.{with_more, past_grows}
use Rattle.s7_rig.specs.Settled.{Settled}
use Rattle.s7_rig.specs.Dialogues.{AreReplies}
use Rattle.s7_rig.specs.Exchanges.{IsHeard, link_past, Replies}
use Rattle.s7_rig.proofs.Awaiting.{telegrams_of, AreAsked, Awaiting}
use Rattle.s7_rig.proofs.Conversing.{Exchange, entries_of, rows_of, verdicts_met, AreTold, Converses}
use Rattle.s7_rig.proofs.HeardLemmas.{AwaitsAnswers, heard_front}
use Rattle.s7_rig.proofs.TelegramLemmas.{IsOut, AreOut, open_behind, awaits_more, asked_at}
use Rattle.s7_rig.proofs.GrowthLemmas.{course_grows}
use Rattle.s7_rig.proofs.PastFacts.{past_with, entered_grows}
use Rattle.s7_rig.proofs.ListFacts.{Parts, parts, some_of}
use Rattle.s7_rig.proofs.SentLemmas.{sent_front, sent_lives}
use Rattle.s7_rig.proofs.AnsweringLemmas.{question_answered}
use Rattle.s7_rig.proofs.HoldDownload.{IsNext}
use Rattle.s7_rig.proofs.HoldLemmas.{AreNext}

-- ---- what stands fixed, and where both ends are

-- What both ends have of a job in the end: the octets that the session used and its verdicts are those of the whole
-- link.
pub record Whole : Type 0 where
  -- the state with which the link began
  pub first : LinkState
  pub origin : Origin
  pub pdu : ℕ
  pub heard : List ℕ
  pub sent : List ℕ
  pub end : End
  pub carried : List ℕ
  pub used : List ℕ
  pub verdicts : List Verdict
  -- what the session left of what was sent
  pub unused : List ℕ
  -- what was met, owed and entered before the job, and what is owed behind what was heard
  pub judged : List Verdict
  pub before : List ℕ
  pub entries : List (Ask × Said)
  pub behind : List ℕ

pub record IsWhole (w : Whole) : Type 0 where
  pub grant : Grant
  pub granted : w.origin.granted ≡ Some grant
  pub pdu_is : grant.pdu ≡ w.pdu
  pub least : 64 ≤ w.pdu
  pub most : w.pdu ≤ most_pdu
  pub over : IsByOctets w.origin w.end w.carried w.heard w.sent
  pub met : (past w.first w.used w.verdicts).verdicts ≡ []
  pub replies : AreReplies (entered w.first w.used w.verdicts)
  pub owed_is : owed w.first w.used w.verdicts ≡ (w.before ++ w.heard) ++ w.behind

-- between two messages, once all is asked that may be
pub record Place : Type 0 where
  -- the exchanges so far, and the questions that are out
  pub gone : List Exchange
  pub rows : List Row
  -- what the client heard so far and what it comes to hear, and what it sent before the questions that are out
  pub heard : List ℕ
  pub more : List ℕ
  pub out : List ℕ
  -- what the session sent behind what the client heard so far
  pub unheard : List (List ℕ)
  -- what the session used so far and its verdicts, and those to come
  pub used : List ℕ
  pub verdicts : List Verdict
  pub taken : List ℕ
  pub left : List Verdict

-- The session used and answered what the exchanges so far asked, and nothing of the questions that are out.
pub record IsAt (w : Whole) (p : Place) : Type 0 where
  pub awaiting : Awaiting w.origin p.heard
  pub rows_are : (course w.origin p.heard).rows ≡ rows_of p.gone ++ p.rows
  pub are_out : AreOut p.rows
  pub asked : AreAsked (conduct_of w.origin) 0 (rows_of p.gone ++ p.rows)
  pub told : AreTold w.pdu p.gone
  pub settled : Settled w.first p.used p.verdicts (Some w.pdu)
  -- the link holds what is asked of it, and what is awaited is sent
  pub next : AreNext p.unheard (past w.first p.used p.verdicts).link p.rows
  pub heard_is : w.heard ≡ p.heard ++ p.more
  pub out_is : (course w.origin p.heard).out ≡ p.out ++ telegrams_of p.rows
  pub sent_is : w.sent ≡ p.out ++ (p.taken ++ w.unused)
  pub used_is : w.used ≡ p.used ++ p.taken
  pub verdicts_are : w.verdicts ≡ p.verdicts ++ p.left
  pub owed_is : owed w.first p.used p.verdicts ≡ (w.before ++ p.heard) ++ sent_messages 1024 p.unheard
  pub entered_is : entered w.first p.used p.verdicts ≡ w.entries ++ entries_of p.gone
  pub met_is : p.verdicts ≡ w.judged ++ verdicts_met p.gone

-- Both stand between two messages again, and the job went by exchanges.
pub record IsDone (w : Whole) : Type 0 where
  pub none_unused : w.unused ≡ []
  pub nothing_behind : w.behind ≡ []
  pub settled : Settled w.first w.used w.verdicts (Some w.pdu)
  pub size : (course w.origin w.heard).size ≡ 1024
  pub sequence : (course w.origin w.heard).sequence < 65536
  pub exchanges : List Exchange
  pub entered_is : entered w.first w.used w.verdicts ≡ w.entries ++ entries_of exchanges
  pub met_is : w.verdicts ≡ w.judged ++ verdicts_met exchanges
  pub converses : Converses w.pdu (conduct_of w.origin) w.end exchanges

-- ---- small lemmas

not_answers : (a : Awaits) (end : End) (carried : List ℕ) → a ≡ for_answers → a ≡ for_nothing end carried → ⊥
not_answers a end carried e h = cc

regrouped : (a h g m b : List ℕ) → h ≡ g ++ m → (a ++ h) ++ b ≡ (a ++ g) ++ (m ++ b)
regrouped a h g m b e =
    ap (λ x. (a ++ x) ++ b) e ∙ (ap (λ x. x ++ b) (sym (append_assoc a g m)) ∙ append_assoc (a ++ g) m b)

replies_front : (new es : List (Ask × Said)) → AreReplies (new ++ es) → AreReplies new
replies_front [] es h = tt
replies_front (e ∷ new) es h = (h.0, replies_front new es h.1)

replies_in : (xs new es : List (Ask × Said)) → AreReplies ((xs ++ new) ++ es) → AreReplies new
replies_in [] new es h = replies_front new es h
replies_in (x ∷ xs) new es h = replies_in xs new es h.1

-- what is owed beyond what was heard at a place
owes_all : (w : Whole) (p : Place) → IsWhole w → IsAt w p
    → owed w.first w.used w.verdicts ≡ (w.before ++ p.heard) ++ (p.more ++ w.behind)
owes_all w p i h = i.owed_is ∙ regrouped w.before w.heard p.heard p.more w.behind h.heard_is

-- and beyond what was owed there, where nothing was unheard
pub owes_more : (w : Whole) (p : Place) → IsWhole w → IsAt w p → p.unheard ≡ []
    → owed w.first w.used w.verdicts ≡ owed w.first p.used p.verdicts ++ (p.more ++ w.behind)
owes_more w p i h none =
    let start = w.before ++ p.heard in
    let same : owed w.first p.used p.verdicts ≡ start =
    h.owed_is ∙ (ap (λ (ms : List (List ℕ)). start ++ sent_messages 1024 ms) none ∙ append-nil start) in
    owes_all w p i h ∙ ap (λ x. x ++ (p.more ++ w.behind)) (sym same)

-- ---- the first question that is out

-- the octets of a question
abbrev pub packet_with : Row → List ℕ
packet_with q = sent_messages 1024 (row_messages q)

-- those of the first question, and of those behind it
pub telegrams_first : (q : Row) (later : List Row) → telegrams_of (q ∷ later) ≡ packet_with q ++ telegrams_of later
telegrams_first q later = flat_map-append (sent_message 1024) (row_messages q) (flat_map row_messages later)

-- what the session replies to it at a place
abbrev pub RepliesAt : Whole → Place → Row → Type 0
RepliesAt w p q = Replies w.first p.used p.verdicts p.left p.unheard w.pdu q.question q.number

-- the verdicts that were met then
pub verdicts_then : (w : Whole) (p : Place) (q : Row) → IsAt w p → (r : RepliesAt w p q)
    → w.verdicts ≡ (p.verdicts ++ r.own) ++ r.left
verdicts_then w p q h r =
    h.verdicts_are ∙ (ap (λ (vs : List Verdict). p.verdicts ++ vs) r.split ∙ sym (append_assoc p.verdicts r.own r.left))

-- The session used the question and gave this reply, and the client heard the reply whole.
pub record IsReplied (w : Whole) (p : Place) (q : Row) : Type 0 where
  pub reply : RepliesAt w p q
  pub taken : List ℕ
  pub taken_is : p.taken ≡ packet_with q ++ taken
  pub least : 10 ≤ length reply.message
  pub most : length reply.message ≤ most_pdu
  pub heard :
      IsHeard w.pdu reply.own (link_past w.first p.used q.number q.question (p.verdicts ++ reply.own)) q.question
      q.number reply.message reply.behind reply.new
  pub more : List ℕ
  pub more_is : p.more ≡ sent_message 1024 reply.message ++ more

pub used_past : (w : Whole) (p : Place) (q : Row) (z : List ℕ) → IsAt w p → p.taken ≡ packet_with q ++ z
    → w.used ≡ (p.used ++ packet_with q) ++ z
used_past w p q z h is =
    h.used_is ∙ (ap (λ x. p.used ++ x) is ∙ sym (append_assoc p.used (packet_with q) z))

-- what the session has after the reply, with the verdicts to come
past_replied : (w : Whole) (p : Place) (q : Row) (r : RepliesAt w p q)
    → past w.first (p.used ++ packet_with q) ((p.verdicts ++ r.own) ++ r.left)
    ≡ with_more (past w.first (p.used ++ packet_with q) (p.verdicts ++ r.own)) r.left
past_replied w p q r =
    past_with w.first (p.used ++ packet_with q) (p.verdicts ++ r.own) r.left r.serves.settled.lives

past_whole : (w : Whole) (p : Place) (q : Row) (z : List ℕ) (r : RepliesAt w p q) → IsAt w p
    → p.taken ≡ packet_with q ++ z
    → past w.first w.used w.verdicts
    ≡ past w.first ((p.used ++ packet_with q) ++ z) ((p.verdicts ++ r.own) ++ r.left)
past_whole w p q z r h is = ap₂ (past w.first) (used_past w p q z h is) (verdicts_then w p q h r)

-- the first message that is unheard then, and what is owed behind it
pub owes_then : (w : Whole) (p : Place) (q : Row) → IsAt w p → (r : RepliesAt w p q)
    → owed w.first (p.used ++ packet_with q) (p.verdicts ++ r.own)
    ≡ (w.before ++ p.heard) ++ (sent_message 1024 r.message ++ sent_messages 1024 r.behind)
owes_then w p q h r =
    let before = w.before ++ p.heard in
    r.serves.owed
    ∙ (ap (λ x. x ++ sent_messages 1024 r.sent) h.owed_is
    ∙ (append_assoc before (sent_messages 1024 p.unheard) (sent_messages 1024 r.sent)
    ∙ ap (λ x. before ++ x)
    (sym (flat_map-append (sent_message 1024) p.unheard r.sent) ∙ ap (sent_messages 1024) r.in_order)))

module _ (w : Whole) (p : Place) (q : Row) (later : List Row) (i : IsWhole w) (h : IsAt w p)
    (is : p.rows ≡ q ∷ later) where
  -- answers are awaited
  pub awaits_answers : AwaitsAnswers w.origin p.heard
  awaits_answers =
      let rows = (course w.origin p.heard).rows in
      let long : open_count rows ≡ length (q ∷ later) =
      ap open_count h.rows_are ∙ (open_behind p.gone p.rows h.are_out ∙ ap length is) in
      record {
        awaiting = h.awaiting;
        awaits = h.awaiting.awaits ∙ awaits_more (conduct_of w.origin) rows (omega (arith, long));
      }

  is_out : IsOut q
  is_out = (subst AreOut is h.are_out).0

  asks_it : (answers : List (Option Answer)) × ((conduct_of w.origin).question_at answers ≡ Some q.question)
  asks_it =
      let c = conduct_of w.origin in
      asked_at c 0 (rows_of p.gone) q later (subst (λ rows. AreAsked c 0 (rows_of p.gone ++ rows)) is h.asked)

  is_next : IsNext p.unheard (past w.first p.used p.verdicts).link q.question
  is_next =
      let next = subst (AreNext p.unheard (past w.first p.used p.verdicts).link) is h.next in (next.0.0, next.1)

  fits_pdu : length (question_octets q.number q.question) ≤ w.pdu
  fits_pdu =
      let asks = asks_it in
      let planned =
      subst (λ g. (plan_of w.origin.job w.origin.config g).conduct.question_at asks.0 ≡ Some q.question) i.granted
      asks.1 in
      let least : 64 ≤ i.grant.pdu = omega (arith, i.pdu_is, i.least) in
      omega (arith, sent_short w.origin.job w.origin.config i.grant asks.0 q.question least planned q.number, i.pdu_is)

  -- while answers are awaited, the job isn't over
  not_over : (course w.origin (p.heard ++ p.more)).awaits ≡ for_answers → ⊥
  not_over awaits =
      not_answers (course w.origin w.heard).awaits w.end w.carried
      (ap (λ x. (course w.origin x).awaits) h.heard_is ∙ awaits) i.over.over

  some_more : 0 < length p.more
  some_more =
      some_of p.more
      (λ none. not_over
      (ap (λ x. (course w.origin x).awaits) (ap (λ x. p.heard ++ x) none ∙ append-nil p.heard)
      ∙ awaits_answers.awaits))

  -- ---- the session used the whole question

  taken_front : (rest : List ℕ) → (course w.origin w.heard).out ≡ (course w.origin p.heard).out ++ rest
      → packet_with q ++ (telegrams_of later ++ rest) ≡ p.taken ++ w.unused
  taken_front rest grown =
      let out : w.sent ≡ p.out ++ (packet_with q ++ (telegrams_of later ++ rest)) =
      i.over.sent
      ∙ (grown
      ∙ (ap (λ x. x ++ rest)
      (h.out_is ∙ ap (λ x. p.out ++ x) (ap telegrams_of is ∙ telegrams_first q later))
      ∙ (append_assoc p.out (packet_with q ++ telegrams_of later) rest
      ∙ ap (λ x. p.out ++ x) (append_assoc (packet_with q) (telegrams_of later) rest)))) in
      append_cancel_left p.out (packet_with q ++ (telegrams_of later ++ rest)) (p.taken ++ w.unused)
      (sym out ∙ h.sent_is)

  taken_by : (rest : List ℕ) → Parts (packet_with q) rest p.taken w.unused
      → (z : List ℕ) × (p.taken ≡ packet_with q ++ z)
  taken_by rest (inr k) = (k.0, k.1)
  taken_by rest (inl k) =
      let waits =
      sent_front p.used p.taken k.0 p.verdicts p.left p.unheard w.pdu q.number q.question h.settled
      (omega (arith, fits_pdu, i.most)) is_next.0 is_next.1 k.1 k.2 in
      let same : owed w.first w.used w.verdicts ≡ owed w.first p.used p.verdicts =
      ap₂ (owed w.first) h.used_is h.verdicts_are ∙ waits.1 in
      absurd
      (omega (
        arith,
        ap length (sym same ∙ owes_more w p i h waits.0),
        length-append (owed w.first p.used p.verdicts) (p.more ++ w.behind),
        length-append p.more w.behind,
        some_more,
      ))

  whole_taken : (z : List ℕ) × (p.taken ≡ packet_with q ++ z)
  whole_taken =
      let grown = course_grows w.origin p.heard p.more in
      let rest = telegrams_of later ++ grown.0 in
      taken_by rest
      (parts (packet_with q) rest p.taken w.unused
      (taken_front grown.0 (ap (λ x. (course w.origin x).out) h.heard_is ∙ grown.1)))

  -- ---- and replied

  reply_at : (z : List ℕ) → p.taken ≡ packet_with q ++ z → RepliesAt w p q
  reply_at z taken =
      let asks = asks_it in
      let live =
      sent_lives p.used z (p.more ++ w.behind) p.verdicts p.left p.unheard w.pdu q.number q.question h.settled
      (omega (arith, fits_pdu, i.most)) is_next.0 is_next.1
      (λ none. ap₂ (owed w.first) (sym (used_past w p q z h taken)) (sym h.verdicts_are) ∙ owes_more w p i h none)
      (omega (arith, length-append p.more w.behind, some_more)) in
      subst
      (λ n. Settled w.first p.used p.verdicts (Some n)
      → Replies w.first p.used p.verdicts p.left p.unheard n q.question q.number) i.pdu_is
      (λ settled. question_answered w.origin i.grant asks.0 q.question q.number w.first p.used p.verdicts p.left
      p.unheard i.granted (omega (arith, i.pdu_is, i.least)) (omega (arith, i.pdu_is, i.most)) is_out.low asks.1
      settled is_next.0 is_next.1 live)
      h.settled

  new_replies : (z : List ℕ) (r : RepliesAt w p q) → p.taken ≡ packet_with q ++ z → AreReplies r.new
  new_replies z r taken =
      let g = entered_grows w.first (p.used ++ packet_with q) z ((p.verdicts ++ r.own) ++ r.left) in
      let same : entered w.first w.used w.verdicts ≡ (entered w.first p.used p.verdicts ++ r.new) ++ g.0 =
      ap (λ (k : Past). entered_of k.mets) (past_whole w p q z r h taken)
      ∙ (g.1 ∙ ap (λ x. x ++ g.0) (ap (λ (k : Past). entered_of k.mets) (past_replied w p q r) ∙ r.serves.entered)) in
      replies_in (entered w.first p.used p.verdicts) r.new g.0 (subst AreReplies same i.replies)

  more_front : (z : List ℕ) (r : RepliesAt w p q) → p.taken ≡ packet_with q ++ z
      → (rest : List ℕ) × (sent_message 1024 r.message ++ rest ≡ p.more ++ w.behind)
  more_front z r taken =
      let g = past_grows w.first (p.used ++ packet_with q) z ((p.verdicts ++ r.own) ++ r.left) in
      let a = sent_message 1024 r.message in
      let others = sent_messages 1024 r.behind in
      let before = w.before ++ p.heard in
      let same : owed w.first w.used w.verdicts ≡ (before ++ (a ++ others)) ++ g.tail =
      ap (λ (k : Past). k.owed) (past_whole w p q z r h taken)
      ∙ (g.owed
      ∙ ap (λ x. x ++ g.tail) (ap (λ (k : Past). k.owed) (past_replied w p q r) ∙ owes_then w p q h r)) in (
        others ++ g.tail,
        append_cancel_left before (a ++ (others ++ g.tail)) (p.more ++ w.behind)
            (ap (λ x. before ++ x) (sym (append_assoc a others g.tail))
            ∙ (sym (append_assoc before (a ++ others) g.tail) ∙ (sym same ∙ owes_all w p i h))),
      )

  -- ---- the client heard the whole reply

  heard_by : (m rest : List ℕ) → length m ≤ message_limit → Parts (sent_message 1024 m) rest p.more w.behind
      → (more : List ℕ) × (p.more ≡ sent_message 1024 m ++ more)
  heard_by m rest most (inr k) = (k.0, k.1)
  heard_by m rest most (inl k) =
      absurd (not_over (heard_front awaits_answers m p.more k.0 most k.1 k.2))

  reply_heard : (z : List ℕ) (r : RepliesAt w p q) → p.taken ≡ packet_with q ++ z → AreReplies r.new → IsReplied w p q
  reply_heard z r taken given =
      let front = more_front z r taken in
      let most = r.most given in
      let heard =
      heard_by r.message front.0 (omega (arith, most))
      (parts (sent_message 1024 r.message) front.0 p.more w.behind front.1) in
      record {
        reply = r;
        taken = z;
        taken_is = taken;
        least = r.least given;
        most = most;
        heard = r.heard given;
        more = heard.0;
        more_is = heard.1;
      }

  pub is_replied : IsReplied w p q
  is_replied =
      let t = whole_taken in
      let r = reply_at t.0 t.1 in
      reply_heard t.0 r t.1 (new_replies t.0 r t.1)
