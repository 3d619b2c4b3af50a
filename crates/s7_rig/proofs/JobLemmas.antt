-- How a job goes on from place to place, and comes to its end.
use Rattle.std.proofs.Common.{◌≡◌, ℕ, zero, suc, ◌+◌, ◌<◌, Some, List, [], ◌∷◌, ◌++◌, length, refl, ap, ap₂, sym, ◌∙◌, subst, arith, length-append, append_assoc, append-nil}
use Rattle.std.specs.List.{flat_map}
use Rattle.std.proofs.lemmas.List.{append_cancel_left, map-append, nil_from_length}
use Rattle.std.proofs.lemmas.List.Concat.{flat_map-append}
use Rattle.s7_wire.specs.Sent.{sent_message, sent_messages}
use Rattle.s7_dialogue.specs.Flight.{Row, answers_of, open_count, filled}
use Rattle.s7_dialogue.specs.Dialogue.{End}
use Rattle.s7_dialogue.specs.Course.{Course, Awaits, for_nothing, conduct_of, next_question, course}
use Rattle.s7_client.specs.Standing.{AwaitsOctets}
use Rattle.s7_dialogue.proofs.FlightLemmas.{row_messages, with_answer}
use Rattle.s7_dialogue.proofs.RowLemmas.{all_append}
use Rattle.s7_session.specs.Verdict.{Verdict}
use Rattle.s7_session.specs.Owed.{Past, past, owed, entered}
use Rattle.s7_session.proofs.PastLemmas.{with_more}
use Rattle.s7_rig.specs.Settled.{Settled}
use Rattle.s7_rig.specs.Exchanges.{HasTold}
use Rattle.s7_rig.proofs.Awaiting.{telegrams_of, AreAsked, AreInTurn}
use Rattle.s7_rig.proofs.Conversing.{Exchange, entries_of, rows_of, verdicts_met}
use Rattle.s7_rig.proofs.PartedLemmas.{some_sent}
use Rattle.s7_rig.proofs.HeardLemmas.{HearsOn, heard_answer}
use Rattle.s7_rig.proofs.TelegramLemmas.{IsOut, AreOut, open_behind, awaits_none, filled_behind, asked_both, asked_filled}
use Rattle.s7_rig.proofs.PastFacts.{past_with}
use Rattle.s7_rig.proofs.ListFacts.{none_of}
use Rattle.s7_rig.proofs.HoldLemmas.{AreNext, next_holds}
use Rattle.s7_rig.proofs.HoldTurns.{course_in_turn}
use Rattle.s7_rig.proofs.DialogueLemmas.{Whole, IsWhole, Place, IsAt, IsDone, IsReplied, packet_with, telegrams_first}
use Rattle.s7_rig.proofs.DialogueLemmas.{owes_more, owes_then, used_past, verdicts_then, awaits_answers, is_replied}

-- ---- lists that are grouped anew

moved : {A : Type 0} (xs : List A) (y : A) (ys zs : List A) → (xs ++ y ∷ ys) ++ zs ≡ (xs ++ y ∷ []) ++ (ys ++ zs)
moved xs y ys zs = append_assoc xs (y ∷ ys) zs ∙ sym (append_assoc xs (y ∷ []) (ys ++ zs))

regrouped : (o p t u taken : List ℕ) → taken ≡ p ++ t → o ++ (taken ++ u) ≡ (o ++ p) ++ (t ++ u)
regrouped o p t u taken is =
    ap (λ x. o ++ (x ++ u)) is ∙ (ap (λ x. o ++ x) (append_assoc p t u) ∙ sym (append_assoc o p (t ++ u)))

telegrams-append : (xs ys : List Row) → telegrams_of (xs ++ ys) ≡ telegrams_of xs ++ telegrams_of ys
telegrams-append xs ys =
    ap (sent_messages 1024) (flat_map-append row_messages xs ys)
    ∙ flat_map-append (sent_message 1024) (flat_map row_messages xs) (flat_map row_messages ys)

entries_more : (xs : List Exchange) (x : Exchange) → entries_of (xs ++ x ∷ []) ≡ entries_of xs ++ x.entries
entries_more xs x =
    flat_map-append (λ (x : Exchange). x.entries) xs (x ∷ []) ∙ ap (λ es. entries_of xs ++ es) (append-nil x.entries)

verdicts_more : (xs : List Exchange) (x : Exchange) → verdicts_met (xs ++ x ∷ []) ≡ verdicts_met xs ++ x.verdicts
verdicts_more xs x =
    flat_map-append (λ (x : Exchange). x.verdicts) xs (x ∷ [])
    ∙ ap (λ (vs : List Verdict). verdicts_met xs ++ vs) (append-nil x.verdicts)

-- ---- from a place to the next

module _ (w : Whole) (p : Place) (q : Row) (later : List Row) (i : IsWhole w) (h : IsAt w p) (is : p.rows ≡ q ∷ later)
    (k : IsReplied w p q) where
  -- the packets of the reply
  abbrev answer_packets : List ℕ
  answer_packets = sent_message 1024 k.reply.message

  -- the rows with the answer
  abbrev answered : List Row
  answered = rows_of p.gone ++ with_answer q k.heard.answer ∷ later

  -- the answer is that to the first question that is out, and more may be asked then
  hears : HearsOn w.origin p.heard answer_packets answered
  hears =
      let out : AreOut (q ∷ later) = subst AreOut is h.are_out in
      heard_answer w.origin p.heard k.reply.message answered (awaits_answers w p q later i h is) k.least
      (omega (arith, k.most))
      (ap (λ rows. filled rows k.reply.message) (h.rows_are ∙ ap (λ rows. rows_of p.gone ++ rows) is)
      ∙ filled_behind p.gone q later k.reply.message k.heard.answer out.0.unanswered k.heard.is)

  abbrev exchange : Exchange
  exchange = record {
    question = q.question;
    number = q.number;
    verdicts = k.reply.own;
    answer = k.heard.answer;
    entries = k.reply.new;
  }

  abbrev next : Place
  next = record {
    gone = p.gone ++ exchange ∷ [];
    rows = later ++ hears.asks.new;
    heard = p.heard ++ answer_packets;
    more = k.more;
    out = p.out ++ packet_with q;
    unheard = k.reply.behind;
    used = p.used ++ packet_with q;
    verdicts = p.verdicts ++ k.reply.own;
    taken = k.taken;
    left = k.reply.left;
  }

  rows_next : answered ++ hears.asks.new ≡ rows_of next.gone ++ next.rows
  rows_next =
      moved (rows_of p.gone) (with_answer q k.heard.answer) later hears.asks.new
      ∙ ap (λ rows. rows ++ (later ++ hears.asks.new)) (sym (map-append _ p.gone (exchange ∷ [])))

  asked_next : AreAsked (conduct_of w.origin) 0 (rows_of next.gone ++ next.rows)
  asked_next =
      let c = conduct_of w.origin in
      let before = subst (λ rows. AreAsked c 0 (rows_of p.gone ++ rows)) is h.asked in
      subst (AreAsked c 0) rows_next
      (asked_both c 0 answered hears.asks.new (asked_filled c 0 (rows_of p.gone) q k.heard.answer later before)
      (subst (λ n. AreAsked c n hears.asks.new) (omega arith) hears.asks.asked))

  out_next : (course w.origin next.heard).out ≡ next.out ++ telegrams_of next.rows
  out_next =
      let new = hears.asks.new in
      let before : List ℕ = packet_with q ++ telegrams_of later in
      hears.asks.out
      ∙ (ap (λ x. x ++ telegrams_of new)
      (h.out_is ∙ ap (λ x. p.out ++ x) (ap telegrams_of is ∙ telegrams_first q later))
      ∙ (append_assoc p.out before (telegrams_of new)
      ∙ (regrouped p.out (packet_with q) (telegrams_of later) (telegrams_of new) before refl
      ∙ ap (λ x. next.out ++ x) (sym (telegrams-append later new)))))

  out_now : AreOut next.rows
  out_now = all_append IsOut later hears.asks.new (subst AreOut is h.are_out).1 hears.asks.are_out

  holds_next : AreNext next.unheard (past w.first next.used next.verdicts).link next.rows
  holds_next =
      next_holds w.origin i.grant i.granted (past w.first next.used next.verdicts).link p.heard next.heard p.gone q
      later exchange next.rows (h.rows_are ∙ ap (λ rows. rows_of p.gone ++ rows) is)
      (subst AreOut is h.are_out).0.unanswered refl (hears.asks.rows ∙ rows_next) hears.awaiting.none_more out_now
      asked_next w.pdu next.unheard k.heard.told k.heard.goes_on k.heard.unheard

  at_next : IsAt w next
  at_next = record {
    awaiting = hears.awaiting;
    rows_are = hears.asks.rows ∙ rows_next;
    are_out = out_now;
    asked = asked_next;
    told = all_append (λ (x : Exchange). HasTold w.pdu x.verdicts x.question x.answer x.entries) p.gone
        (exchange ∷ []) h.told (k.heard.told, tt);
    settled = k.reply.serves.settled;
    next = holds_next;
    heard_is = h.heard_is ∙ (ap (λ x. p.heard ++ x) k.more_is ∙ sym (append_assoc p.heard answer_packets k.more));
    out_is = out_next;
    sent_is = h.sent_is ∙ regrouped p.out (packet_with q) k.taken w.unused p.taken k.taken_is;
    used_is = used_past w p q k.taken h k.taken_is;
    verdicts_are = verdicts_then w p q h k.reply;
    owed_is =
        owes_then w p q h k.reply
        ∙ (sym (append_assoc (w.before ++ p.heard) answer_packets (sent_messages 1024 next.unheard))
        ∙ ap (λ x. x ++ sent_messages 1024 next.unheard) (append_assoc w.before p.heard answer_packets));
    entered_is =
        k.reply.serves.entered
        ∙ (ap (λ x. x ++ k.reply.new) h.entered_is
        ∙ (append_assoc w.entries (entries_of p.gone) k.reply.new
        ∙ ap (λ x. w.entries ++ x) (sym (entries_more p.gone exchange))));
    met_is =
        ap (λ (vs : List Verdict). vs ++ k.reply.own) h.met_is
        ∙ (append_assoc w.judged (verdicts_met p.gone) k.reply.own
        ∙ ap (λ (vs : List Verdict). w.judged ++ vs) (sym (verdicts_more p.gone exchange)));
  }

  less_more : length next.more < length p.more
  less_more =
      omega (
        arith,
        ap length k.more_is,
        length-append answer_packets k.more,
        some_sent 1024 k.reply.message (omega arith),
      )

-- ---- the last place

pub same_end : (a : Awaits) (end other : End) (carried others : List ℕ) → a ≡ for_nothing end carried
    → a ≡ for_nothing other others → end ≡ other
same_end a end other carried others e h = cc

settled_as : {first : _} (b c : List ℕ) (js ks : List Verdict) (granted : _) → b ≡ c → js ≡ ks
    → Settled first c ks granted → Settled first b js granted
settled_as {first} b c js ks granted e f s =
    subst (λ x. Settled first x js granted) (sym e) (subst (λ vs. Settled first c vs granted) (sym f) s)

-- where no question is out
module _ (w : Whole) (p : Place) (i : IsWhole w) (h : IsAt w p) (none : p.rows ≡ []) where
  rows_last : (course w.origin p.heard).rows ≡ rows_of p.gone
  rows_last = h.rows_are ∙ (ap (λ rows. rows_of p.gone ++ rows) none ∙ append-nil (rows_of p.gone))

  -- the job is over
  over_last : (course w.origin p.heard).awaits
      ≡ for_nothing ((conduct_of w.origin).ended (answers_of (rows_of p.gone))) []
  over_last =
      let rows = (course w.origin p.heard).rows in
      let answered : open_count rows ≡ 0 =
      ap open_count h.rows_are ∙ (open_behind p.gone p.rows h.are_out ∙ ap length none) in
      h.awaiting.awaits
      ∙ (awaits_none (conduct_of w.origin) rows answered
      ∙ ap (λ rows. for_nothing ((conduct_of w.origin).ended (answers_of rows)) []) rows_last)

  -- all was heard
  heard_last : w.heard ≡ p.heard
  heard_last =
      let none : p.more ≡ [] =
      none_of p.more (λ some. subst AwaitsOctets over_last (i.over.all_awaited p.heard p.more h.heard_is some)) in
      h.heard_is ∙ (ap (λ x. p.heard ++ x) none ∙ append-nil p.heard)

  course_last : course w.origin w.heard ≡ course w.origin p.heard
  course_last = ap (course w.origin) heard_last

  -- all that was sent was used
  sent_last : p.taken ++ w.unused ≡ []
  sent_last =
      append_cancel_left p.out (p.taken ++ w.unused) []
      (sym h.sent_is
      ∙ (i.over.sent
      ∙ (ap (λ (c : Course). c.out) course_last ∙ (h.out_is ∙ ap (λ rows. p.out ++ telegrams_of rows) none))))

  taken_last : p.taken ≡ []
  taken_last = nil_from_length p.taken (omega (arith, ap length sent_last, length-append p.taken w.unused))

  used_last : w.used ≡ p.used
  used_last = h.used_is ∙ (ap (λ x. p.used ++ x) taken_last ∙ append-nil p.used)

  -- the verdicts that are left met no telegram
  past_last : past w.first w.used w.verdicts ≡ with_more (past w.first p.used p.verdicts) p.left
  past_last = ap₂ (past w.first) used_last h.verdicts_are ∙ past_with w.first p.used p.verdicts p.left h.settled.lives

  verdicts_last : w.verdicts ≡ p.verdicts
  verdicts_last =
      let none : p.left ≡ [] =
      sym (ap (λ (vs : List Verdict). vs ++ p.left) h.settled.met)
      ∙ (sym (ap (λ (k : Past). k.verdicts) past_last) ∙ i.met) in
      h.verdicts_are ∙ (ap (λ (vs : List Verdict). p.verdicts ++ vs) none ∙ append-nil p.verdicts)

  -- nothing is unheard
  behind_last : w.behind ≡ []
  behind_last =
      let silent = (subst (AreNext p.unheard (past w.first p.used p.verdicts).link) none h.next).1 in
      let owes = ap length (sym (ap (λ (k : Past). k.owed) past_last) ∙ owes_more w p i h silent) in
      nil_from_length w.behind
      (omega (
        arith,
        owes,
        length-append (owed w.first p.used p.verdicts) (p.more ++ w.behind),
        length-append p.more w.behind,
      ))

  -- and the job went by the exchanges so far
  done_last : IsDone w
  done_last = record {
    none_unused = nil_from_length w.unused (omega (arith, ap length sent_last, length-append p.taken w.unused));
    nothing_behind = behind_last;
    settled = settled_as w.used p.used w.verdicts p.verdicts (Some w.pdu) used_last verdicts_last h.settled;
    size = ap (λ (c : Course). c.size) course_last ∙ h.awaiting.size;
    sequence = subst (λ (c : Course). c.sequence < 65536) (sym course_last) h.awaiting.sequence;
    exchanges = p.gone;
    entered_is = ap₂ (entered w.first) used_last verdicts_last ∙ h.entered_is;
    met_is = verdicts_last ∙ h.met_is;
    converses = record {
      asked = subst (AreAsked (conduct_of w.origin) 0) (sym h.rows_are ∙ rows_last) h.asked;
      in_turn = λ narrow.
          subst (AreInTurn (conduct_of w.origin) []) rows_last (course_in_turn w.origin p.heard narrow);
      told = h.told;
      none_more = ap (next_question (conduct_of w.origin)) (sym rows_last) ∙ h.awaiting.none_more;
      is = same_end (course w.origin w.heard).awaits w.end _ w.carried [] i.over.over
          (ap (λ (c : Course). c.awaits) course_last ∙ over_last);
    };
  }

-- ---- from place to place

done_within : (n : ℕ) (w : Whole) (p : Place) (rows : List Row) → IsWhole w → IsAt w p → p.rows ≡ rows
    → length p.more < n → IsDone w
done_within zero w p rows i h is most = absurd (omega (arith, most))
done_within (suc n) w p [] i h is most = done_last w p i h is
done_within (suc n) w p (q ∷ later) i h is most =
    let k = is_replied w p q later i h is in
    let after = next w p q later i h is k in
    done_within n w after after.rows i (at_next w p q later i h is k) refl
    (omega (arith, less_more w p q later i h is k, most))

-- From any place the job comes to its end.
pub done : (w : Whole) (p : Place) → IsWhole w → IsAt w p → IsDone w
done w p i h = done_within (length p.more + 1) w p p.rows i h refl (omega arith)
